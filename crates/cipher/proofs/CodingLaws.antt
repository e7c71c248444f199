-- The code under way: the cutting at blocks of eight, the ways through the functions, and what they answer. Assumes nothing.
use mathlib.Core.Path.{◌≡◌, refl, sym, ap, ap₂, subst, transport, ◌∙◌}
use mathlib.Core.Bool.{Bool, true, false, not, cond, and-false, false≢true}
use mathlib.Core.List.{List, [], ◌∷◌, ◌++◌, append_assoc, append-nil}
use Prim.Native.Nat.{ℕ, suc, ◌+◌, ◌-◌, ◌*◌, ◌/◌, ◌%◌, ◌<◌, ◌≤◌}
use native.Mathlib.Nat.{mod-eq_of_lt, zero-add}
use native.Mathlib.Numerals.{add-one}
use native.Mathlib.Omega.{arith}
use borrow.Author.Tests.{eqb-true, eqb-false, eq-eqb, ne_eqb, le-leb, lt-leb}
use lib.Dec.{lit<, eqb}
use lib.ListN.{length, take, drop, set, get_or, replicate, length-append, length-drop, length-set, take-append-drop}
use lib.Seq.{set_at, length-take-le, take_all, take_at, take-suc, drop-length, drop-drop}
use Rattle.octets.specs.Numbers.{le_octets}
use Rattle.octets.specs.Lengths.{key_fits}
use Rattle.blocks.specs.Blocks.{absorbed, tail}
use Rattle.blocks.specs.Parts.{filled, fits, part_number, poured, counted, after, CutAnyWay}
use Rattle.blocks.proofs.Laws.{absorbed_step, absorbed_end, tail_end, tail_short, tail_whole}
use Rattle.blocks.proofs.PartLaws.{held_filled, Keeps, total_poured, poured_none, poured_poured, settled_none, cut_any_way}
use Rattle.gost.specs.declared.Halves.{Halves}
use Rattle.gost.specs.Gost.{rounds, halves, subkeys}
use Rattle.cipher.specs.declared.Coding.{Coding}
use Rattle.std.specs.Prelude.{Ok, Err}
use Rattle.std.specs.Result.{result_unwrap_or}
use Rattle.answers.specs.declared.Refusal.{Refusal}
use Rattle.answers.specs.declared.Refusal.TheVariants.{Input}
use Rattle.answers.specs.Answers.{number_told}
use Rattle.cipher.specs.Code.{added, code_step, start, state, code_of}
use Rattle.cipher.specs.Answers.{coded_with, coded}
use Rattle.cipher.proofs.AnswerLaws.{no_octets, no_whole, string_fits_lem, code_key}
use Rattle.cipher.specs.Coding.{coding_of, held, code_way, coding_begun, code_begun, code_fed, is_whole, code_ended}

pub held_coding : (ks : List ℕ) (h : Halves) (t : List ℕ) (n : ℕ) → length t < 8 → held (coding_of ks h t n) ≡ t
unfolding held coding_of
held_coding ks h t n l = held_filled 8 t l

pub code_keeps : Keeps code_way
unfolding coding_of
code_keeps =
    record {
      some = lit< tt;
      step_anew = λ s h t n. refl;
      made_anew = λ s h t n. refl;
      held_anew = λ s. held_coding s.subkeys;
      total_anew = λ s h t n. refl;
      anew_anew = λ s h t n d u k. refl;
    }

subkeys_coding : (ks : List ℕ) (h : Halves) (t : List ℕ) (n : ℕ) → (coding_of ks h t n).subkeys ≡ ks
unfolding coding_of
subkeys_coding ks h t n = refl

halves_coding : (ks : List ℕ) (h : Halves) (t : List ℕ) (n : ℕ) → (coding_of ks h t n).halves ≡ h
unfolding coding_of
halves_coding ks h t n = refl

total_coding : (ks : List ℕ) (h : Halves) (t : List ℕ) (n : ℕ) → (coding_of ks h t n).total ≡ n
unfolding coding_of
total_coding ks h t n = refl

halves_anew : (ks : List ℕ) (h g : Halves) (t : List ℕ) (n : ℕ)
    → record { subkeys = (coding_of ks h t n).subkeys; halves = g; buffer = (coding_of ks h t n).buffer; fill = (coding_of ks h t n).fill; total = (coding_of ks h t n).total }
    ≡ coding_of ks g t n
unfolding coding_of
halves_anew ks h g t n = refl

-- a state as feeding leaves it
abbrev pub Ready : Coding → Type 0
Ready s = (s.fill < 8) × (s.buffer ≡ filled 8 (held s))

pub ready_coding : (ks : List ℕ) (h : Halves) (t : List ℕ) (n : ℕ) → length t < 8 → Ready (coding_of ks h t n)
unfolding coding_of
ready_coding ks h t n l = (l, ap (filled 8) (sym (held_coding ks h t n l)))

pub ready_poured : (s : Coding) (m : List ℕ) (n : ℕ) → Ready (poured code_way s m n)
unfolding poured
ready_poured s m n = ready_coding s.subkeys _ (tail 8 (held s ++ m)) n (tail_short 8 (lit< tt) (held s ++ m))

pub ready_of : (s t : Coding) (m : List ℕ) (n : ℕ) → t ≡ poured code_way s m n → Ready t
ready_of s t m n e = subst Ready (sym e) (ready_poured s m n)

pub ready_halves : (s : Coding) (h : Halves) → Ready s → Ready (record { subkeys = s.subkeys; halves = h; buffer = s.buffer; fill = s.fill; total = s.total })
unfolding held
ready_halves s h r = r

-- a byte is put after the bytes of a buffer
set_filled : (t : List ℕ) (b n : ℕ) → length t ≡ n → n < 8 → set (filled 8 t) n b ≡ filled 8 (t ++ b ∷ [])
unfolding filled
set_filled t b n e h =
    let z : 8 - length t ≡ suc (7 - length t) = omega arith in
    let k : length (t ++ b ∷ []) ≡ length t + 1 = length-append t (b ∷ []) in
    let y : 7 - length t ≡ 8 - length (t ++ b ∷ []) = omega arith in
    ap (λ (i : ℕ). set (t ++ replicate i 0) n b) z
    ∙ set_at t 0 (replicate (7 - length t) 0) b n e
    ∙ sym (append_assoc t (b ∷ []) (replicate (7 - length t) 0))
    ∙ ap (λ (i : ℕ). (t ++ b ∷ []) ++ replicate i 0) y

module _ (s : Coding) (b : ℕ) (r : Ready s) (hb : length s.buffer ≡ 8) where
  length-held : length (held s) ≡ s.fill
  unfolding held
  length-held = length-take-le (s.fill % 8) s.buffer (omega (arith, r.0)) ∙ mod-eq_of_lt r.0

  pushed : set s.buffer s.fill b ≡ filled 8 (held s ++ b ∷ [])
  pushed = ap (λ (x : List ℕ). set x s.fill b) r.1 ∙ set_filled (held s) b s.fill length-held r.0

  pub push_more : s.fill < 7
      → record { subkeys = s.subkeys; halves = s.halves; buffer = set s.buffer s.fill b; fill = s.fill + 1; total = s.total } ≡ poured code_way s (b ∷ []) s.total
  unfolding poured coding_of
  push_more h =
      let x : List ℕ = held s ++ b ∷ [] in
      let n : length x ≡ s.fill + 1 = length-append (held s) (b ∷ []) ∙ ap (λ (k : ℕ). k + 1) length-held in
      let l : length x < 8 = omega arith in
      (λ k. record { subkeys = s.subkeys; halves = s.halves; buffer = pushed k; fill = sym n k; total = s.total })
      ∙ ap₂ (λ (g : Halves) (t : List ℕ). coding_of s.subkeys g t s.total)
      (sym (absorbed_end 8 (lit< tt) (code_step s.subkeys) s.halves x l)) (sym (tail_end 8 (lit< tt) x l))

  pub push_full : 7 ≤ s.fill → (h : Halves) → h ≡ rounds (s.subkeys ++ s.subkeys) (added s.halves (halves (set s.buffer s.fill b)))
      → record { subkeys = s.subkeys; halves = h; buffer = replicate 8 0; fill = 0; total = s.total } ≡ poured code_way s (b ∷ []) s.total
  unfolding poured coding_of code_step filled
  push_full l h e =
      let x : List ℕ = held s ++ b ∷ [] in
      let n : length x ≡ 8 = length-append (held s) (b ∷ []) ∙ ap (λ (k : ℕ). k + 1) length-held ∙ omega (arith, r.0) in
      let f = code_step s.subkeys in
      let d : drop 8 x ≡ [] = ap (λ (k : ℕ). drop k x) (sym n) ∙ drop-length x in
      let one : absorbed 8 f s.halves x ≡ f s.halves x =
      absorbed_step 8 (lit< tt) f s.halves x (omega arith)
      ∙ ap₂ (λ (u v : List ℕ). absorbed 8 f (f s.halves u) v) (take_all 8 x (omega arith)) d
      ∙ absorbed_end 8 (lit< tt) f (f s.halves x) [] (lit< tt) in
      let whole : set s.buffer s.fill b ≡ x =
      sym (take_all 8 (set s.buffer s.fill b) (simp length-set (omega arith))) ∙ ap (take 8) pushed ∙ take_at x (replicate (8 - length x) 0) 8 n in
      let g : h ≡ f s.halves x = e ∙ ap (λ (u : List ℕ). rounds (s.subkeys ++ s.subkeys) (added s.halves (halves u))) whole in
      ap₂ (λ (u : Halves) (v : List ℕ). coding_of s.subkeys u v s.total) (g ∙ sym one) (sym (tail_whole 8 (lit< tt) 1 x (n ∙ omega arith)))

-- the loop that pushes: at its start, a byte more, and its end
pub push_start : (s : Coding) → Ready s → length s.buffer ≡ 8 → s ≡ poured code_way s [] s.total
unfolding poured coding_of
push_start s r hb =
    let x : List ℕ = held s in
    let e : length x ≡ s.fill = length-held s 0 r hb in
    let l : length x < 8 = omega (arith, r.0) in
    (λ k. record { subkeys = s.subkeys; halves = s.halves; buffer = r.1 k; fill = sym e k; total = s.total })
    ∙ ap₂ (λ (g : Halves) (t : List ℕ). coding_of s.subkeys g t s.total)
    (sym (absorbed_end 8 (lit< tt) (code_step s.subkeys) s.halves x l)) (sym (tail_end 8 (lit< tt) x l))
    ∙ ap (λ (t : List ℕ). coding_of s.subkeys (absorbed 8 (code_step s.subkeys) s.halves t) (tail 8 t) s.total) (sym (append-nil x))

module _ (s : Coding) (m : List ℕ) (i : ℕ) (t : Coding) (e : t ≡ poured code_way s (take i m) s.total) where
  pub push_ready : Ready t
  push_ready = ready_of s t (take i m) s.total e

  pub push_turn : (r : Coding) → i < length m → r ≡ poured code_way t (get_or m i 0 ∷ []) t.total → r ≡ poured code_way s (take (i + 1) m) s.total
  push_turn r h q =
      q
      ∙ ap₂ (λ (x : Coding) (n : ℕ). poured code_way x (get_or m i 0 ∷ []) n) e (ap (λ (x : Coding). x.total) e ∙ total_poured code_way code_keeps s (take i m) s.total)
      ∙ poured_poured code_way code_keeps s (take i m) (get_or m i 0 ∷ []) s.total s.total
      ∙ ap (λ (x : List ℕ). poured code_way s x s.total) (sym (take-suc m i 0 h) ∙ ap (λ (k : ℕ). take k m) (sym (add-one i)))

  pub push_end : length m ≤ i → t ≡ poured code_way s m s.total
  push_end h = e ∙ ap (λ (x : List ℕ). poured code_way s x s.total) (take_all i m h)

-- after nothing held
pub after_none : (ks : List ℕ) (h : Halves) (k : ℕ) (x : List ℕ) (n : ℕ)
    → poured code_way (coding_of ks h [] k) x n ≡ coding_of ks (absorbed 8 (code_step ks) h x) (tail 8 x) n
unfolding coding_of
after_none ks h k x n = poured_none code_way code_keeps (coding_of ks h [] k) h k x n

-- and whole blocks
none_left : (x : List ℕ) → length x % 8 ≡ 0 → tail 8 x ≡ []
none_left x e = tail_whole 8 (lit< tt) (length x / 8) x (omega arith)

-- the ways through pour: what is held comes first, after nothing
module _ (s : Coding) (m : List ℕ) where
  abbrev empty : Coding
  empty = coding_of s.subkeys s.halves [] s.total

  from_empty : (x : List ℕ) → poured code_way empty (held s ++ x) s.total ≡ poured code_way s x s.total
  unfolding poured coding_of
  from_empty x =
      ap (λ (t : List ℕ). coding_of s.subkeys (absorbed 8 (code_step s.subkeys) s.halves (t ++ (held s ++ x))) (tail 8 (t ++ (held s ++ x))) s.total)
      (held_coding s.subkeys s.halves [] s.total (lit< tt))

  -- what is poured after x, after nothing
  on : (a r : Coding) (x y : List ℕ) → a ≡ poured code_way empty x s.total → r ≡ poured code_way a y a.total → r ≡ poured code_way empty (x ++ y) s.total
  on a r x y ea er =
      er
      ∙ ap₂ (λ (c : Coding) (n : ℕ). poured code_way c y n) ea (ap (λ (c : Coding). c.total) ea ∙ total_poured code_way code_keeps empty x s.total)
      ∙ poured_poured code_way code_keeps empty x y s.total s.total

  pub pour_short : (a r : Coding) → a ≡ poured code_way empty (held s) s.total → r ≡ poured code_way a m a.total → r ≡ poured code_way s m s.total
  pour_short a r ea er = on a r (held s) m ea er ∙ from_empty m

  module _ (need end : ℕ) (l : need ≤ end) (u : end ≤ length m) (hn : (length (held s) + need) % 8 ≡ 0) (he : (end - need) % 8 ≡ 0) where
    abbrev front : List ℕ
    front = held s ++ take need m

    abbrev blocks : List ℕ
    blocks = take (end - need) (drop need m)

    all : (front ++ blocks) ++ drop end m ≡ held s ++ m
    all =
        let d : end ≡ need + (end - need) = omega arith in
        let e : drop end m ≡ drop (end - need) (drop need m) = ap (λ (k : ℕ). drop k m) d ∙ sym (drop-drop (end - need) need m) in
        append_assoc front blocks (drop end m)
        ∙ append_assoc (held s) (take need m) (blocks ++ drop end m)
        ∙ ap (λ (y : List ℕ). held s ++ (take need m ++ y)) (ap (λ (y : List ℕ). blocks ++ y) e ∙ take-append-drop (end - need) (drop need m))
        ∙ ap (λ (y : List ℕ). held s ++ y) (take-append-drop need m)

    pub pour_long : (a b c r : Coding) (h : Halves) → a ≡ poured code_way empty (held s) s.total → b ≡ poured code_way a (take need m) a.total
        → h ≡ absorbed 8 (code_step s.subkeys) b.halves blocks
        → c ≡ record { subkeys = b.subkeys; halves = h; buffer = b.buffer; fill = b.fill; total = b.total }
        → r ≡ poured code_way c (drop end m) c.total → r ≡ poured code_way s m s.total
    pour_long a b c r h ea eb eh ec er =
        let ks : List ℕ = s.subkeys in
        let n : ℕ = s.total in
        let f = code_step ks in
        let g : Halves = absorbed 8 f s.halves front in
        let lf : length front % 8 ≡ 0 =
        ap (λ (k : ℕ). k % 8) (length-append (held s) (take need m) ∙ ap (λ (k : ℕ). length (held s) + k) (length-take-le need m (omega arith))) ∙ hn in
        let lb : length blocks % 8 ≡ 0 = ap (λ (k : ℕ). k % 8) (length-take-le (end - need) (drop need m) (simp length-drop (omega arith))) ∙ he in
        let b1 : b ≡ poured code_way empty front n = on a b (held s) (take need m) ea eb in
        let b2 : b ≡ coding_of ks g [] n = b1 ∙ after_none ks s.halves n front n ∙ ap (λ (y : List ℕ). coding_of ks g y n) (none_left front lf) in
        let c1 : c ≡ coding_of ks (absorbed 8 f g blocks) [] n =
        ec
        ∙ ap₂ (λ (y : Coding) (k : Halves). record { subkeys = y.subkeys; halves = k; buffer = y.buffer; fill = y.fill; total = y.total }) b2
        (eh ∙ ap (λ (y : Coding). absorbed 8 f y.halves blocks) b2 ∙ ap (λ (k : Halves). absorbed 8 f k blocks) (halves_coding ks g [] n))
        ∙ halves_anew ks g (absorbed 8 f g blocks) [] n in
        let c2 : c ≡ poured code_way b blocks b.total =
        c1
        ∙ ap (λ (y : List ℕ). coding_of ks (absorbed 8 f g blocks) y n) (sym (none_left blocks lb))
        ∙ sym (after_none ks g n blocks n)
        ∙ sym (ap₂ (λ (y : Coding) (k : ℕ). poured code_way y blocks k) b2 (ap (λ (y : Coding). y.total) b2 ∙ total_coding ks g [] n)) in
        on c r (front ++ blocks) (drop end m) (on b c front blocks b1 c2) er
        ∙ ap (λ (y : List ℕ). poured code_way empty y n) all
        ∙ from_empty m

-- what is answered
module _ (key : List ℕ) where
  pub begun_not : (length key ≡ 32 → ⊥) → Err Input ≡ code_begun key
  unfolding code_begun key_fits
  begun_not h = simp (ne_eqb _ _ h)

  pub begun_fits : length key ≡ 32 → Ok (coding_begun (subkeys 8 key)) ≡ code_begun key
  unfolding code_begun key_fits
  begun_fits h = simp (eq-eqb _ _ h)

  pub code_begins : number_told (code_begun key) ≡ cond (eqb (length key) 32) 0 1
  unfolding code_begun key_fits
  code_begins = by (eqb (length key) 32)
    where
      by : (b : Bool) → number_told {T = Coding} (cond b (Ok (coding_begun (subkeys 8 key))) (Err Input)) ≡ cond {A = ℕ} b 0 1
      by true = refl
      by false = refl

module _ (s : Coding) (m : List ℕ) where
  pub fed_not : (r : Bool) → r ≡ fits s.total (length m) → not r ≡ true → Err Input ≡ code_fed s m
  unfolding code_fed
  fed_not true e h = absurd (false≢true h)
  fed_not false e h = ap (λ (b : Bool). cond b (Ok (counted code_way s m)) (Err Input)) e

  pub fed_fits : (r : Bool) → r ≡ fits s.total (length m) → not r ≡ false → (t : Coding) → t ≡ poured code_way s m s.total
      → Ok (record { subkeys = t.subkeys; halves = t.halves; buffer = t.buffer; fill = t.fill; total = s.total + length m }) ≡ code_fed s m
  unfolding code_fed counted poured coding_of
  fed_fits false e h t q = absurd (false≢true (sym h))
  fed_fits true e h t q =
      ap (λ (x : Coding). Ok (record { subkeys = x.subkeys; halves = x.halves; buffer = x.buffer; fill = x.fill; total = s.total + length m })) q
      ∙ ap (λ (b : Bool). cond b (Ok (counted code_way s m)) (Err Input)) e

  -- a part's number, and the state after it
  fed_number : number_told (code_fed s m) ≡ part_number s.total m
  unfolding code_fed part_number
  fed_number = by (fits s.total (length m))
    where
      by : (b : Bool) → number_told {T = Coding} (cond b (Ok (counted code_way s m)) (Err Input)) ≡ cond {A = ℕ} b 0 1
      by true = refl
      by false = refl

  fed_after : result_unwrap_or (code_fed s m) s ≡ after code_way s m
  unfolding code_fed after
  fed_after = by (fits s.total (length m))
    where
      by : (b : Bool) → result_unwrap_or {T = Coding} {E = Refusal} (cond b (Ok (counted code_way s m)) (Err Input)) s ≡ cond b (counted code_way s m) s
      by true = refl
      by false = refl

module _ (s : Coding) where
  pub length_held_of : length s.buffer ≡ 8 → length (held s) ≡ s.fill % 8
  unfolding held
  length_held_of h = length-take-le (s.fill % 8) s.buffer (omega arith)

  pub end_none : s.total < 8 → Err Input ≡ code_ended s
  unfolding code_ended is_whole
  end_none h = simp (lt-leb _ _ h)

  pub end_left : (length (held s) ≡ 0 → ⊥) → Err Input ≡ code_ended s
  unfolding code_ended is_whole
  end_left h = simp (ne_eqb _ _ h, and-false)

  pub end_whole : 8 ≤ s.total → length (held s) ≡ 0 → Ok (le_octets 4 s.halves.n1) ≡ code_ended s
  unfolding code_ended is_whole
  end_whole h l = simp (le-leb _ _ h, eq-eqb _ _ l)

state_absorbed : (ks m : List ℕ) → state ks m ≡ absorbed 8 (code_step ks) start m
unfolding state
state_absorbed ks m = refl

-- a string fed at once
module _ (ks m : List ℕ) where
  length-tail : length (tail 8 m) ≡ length m % 8
  unfolding tail
  length-tail = length-drop (length m / 8 * 8) m ∙ omega arith

  abbrev fed_all : Coding
  fed_all = coding_of ks (state ks m) (tail 8 m) (length m)

  length_all : length (held fed_all) ≡ length m % 8
  length_all = ap length (held_coding ks (state ks m) (tail 8 m) (length m) (tail_short 8 (lit< tt) m)) ∙ length-tail

  total_all : fed_all.total ≡ length m
  total_all = total_coding ks (state ks m) (tail 8 m) (length m)

  bytes_all : le_octets 4 fed_all.halves.n1 ≡ code_of ks m
  unfolding code_of
  bytes_all = ap (λ (h : Halves). le_octets 4 h.n1) (halves_coding ks (state ks m) (tail 8 m) (length m))

  by_length : (z p : Bool) → eqb (length m) 0 ≡ z → eqb (length m % 8) 0 ≡ p → code_ended fed_all ≡ coded_with ks m
  by_length z false ez ep = sym (end_left fed_all (λ e. eqb-false _ _ ep (sym length_all ∙ e))) ∙ no_whole ks m (eqb-false _ _ ep)
  by_length true true ez ep = sym (end_none fed_all (omega (arith, total_all, eqb-true (length m) 0 ez))) ∙ no_octets ks m (eqb-true _ _ ez)
  by_length false true ez ep =
      let some : length m ≡ 0 → ⊥ = eqb-false _ _ ez in
      let whole : length m % 8 ≡ 0 = eqb-true _ _ ep in
      sym (end_whole fed_all (omega (arith, total_all, some)) (length_all ∙ whole))
      ∙ ap Ok bytes_all
      ∙ string_fits_lem ks m some whole

  ended_all : code_ended (counted code_way (coding_begun ks) m) ≡ coded_with ks m
  unfolding counted coding_begun
  ended_all =
      ap code_ended
      (after_none ks start 0 m ((coding_of ks start [] 0).total + length m)
      ∙ ap (λ (n : ℕ). coding_of ks (absorbed 8 (code_step ks) start m) (tail 8 m) n) (ap (λ (n : ℕ). n + length m) (total_coding ks start [] 0) ∙ zero-add (length m))
      ∙ ap (λ (h : Halves). coding_of ks h (tail 8 m) (length m)) (sym (state_absorbed ks m)))
      ∙ by_length (eqb (length m) 0) (eqb (length m % 8) 0) refl refl

settled : (ks : List ℕ) → counted code_way (coding_begun ks) [] ≡ coding_begun ks
unfolding coding_begun coding_of
settled ks = settled_none code_way code_keeps (coding_begun ks) start 0

pub under_cut : (ks : List ℕ) → CutAnyWay (coding_begun ks) (λ s m. part_number s.total m) (after code_way) code_ended (coded_with ks)
unfolding coding_begun
under_cut ks = cut_any_way code_way code_keeps (coding_begun ks) code_ended (coded_with ks) (settled ks) (total_coding ks start [] 0) (ended_all ks)

-- Wish 5, for the code: a key of 32 bytes begins a state of which parts cut any way give the answer of the whole
pub code_cut : (key : List ℕ) → length key ≡ 32
    → (s : Coding) × (code_begun key ≡ Ok s) × CutAnyWay s (λ x m. number_told (code_fed x m)) (λ x m. result_unwrap_or (code_fed x m) x) code_ended (coded key)
code_cut key h =
    let ks : List ℕ = subkeys 8 key in
    let c = under_cut ks in
    let n : (λ (x : Coding) (m : List ℕ). part_number x.total m) ≡ (λ (x : Coding) (m : List ℕ). number_told (code_fed x m)) = λ k x m. sym (fed_number x m) k in
    let a : after code_way ≡ (λ (x : Coding) (m : List ℕ). result_unwrap_or (code_fed x m) x) = λ k x m. sym (fed_after x m) k in
    let r : coded_with ks ≡ coded key = λ k m. code_key key m h k in
    (coding_begun ks, sym (begun_fits key h), transport (λ k. CutAnyWay (coding_begun ks) (n k) (a k) code_ended (r k)) c)
