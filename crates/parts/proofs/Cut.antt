-- Over lent bytes a message is cut any way: from the states' being read as they were written, and from the cutting by value. Assumes nothing.
use mathlib.Core.Path.{◌≡◌, refl, sym, ap, ap₂, ◌∙◌, subst}
use mathlib.Core.Bool.{Bool, true, false, ◌&&◌, cond, and-false}
use mathlib.Core.List.{List, [], ◌∷◌, ◌++◌, map}
use Prim.Native.Nat.{ℕ, zero, suc, ◌+◌, ◌-◌, ◌*◌, ◌/◌, ◌%◌, ◌^◌, ◌<◌, ◌≤◌}
use native.Mathlib.Omega.{arith}
use borrow.Author.Tests.{eq-eqb, ne_eqb, leb-true}
use lib.Bits.{bit_xor, xor_lt}
use lib.Dec.{lit<, eqb}
use lib.ListN.{length, get_or, replicate, length-append, length-replicate}
use Rattle.octets.specs.Numbers.{Octets}
use Rattle.octets.proofs.Parts.{zeros, octets-take, octets-append, below_zeros, octets-drop}
use Rattle.blocks.specs.Blocks.{absorbed, tail}
use Rattle.blocks.specs.Parts.{Way, fits, part_number, fitting, filled, poured, counted, after, after_all, CutAnyWay}
use Rattle.blocks.proofs.Laws.{tail_short}
use Rattle.hash.specs.declared.Core.{Core}
use Rattle.hash.specs.declared.State.{State}
use Rattle.hash.specs.Hash.{start, block_step, hash256}
use Rattle.hash.specs.States.{state_of, held, hash_way, begun, poured_into, fed, ended}
use Rattle.hash.proofs.Laws.{told, left, cut_alike, hash_cut}
use Rattle.std.specs.Prelude.{Result, Ok, Err}
use Rattle.std.specs.Result.{result_unwrap_or}
use Rattle.answers.specs.declared.Refusal.{Refusal}
use Rattle.answers.specs.Answers.{number_told}
use Rattle.derive.specs.declared.Started.{Started}
use Rattle.derive.specs.Hmac.{key_pad, ipad, opad, hmac}
use Rattle.derive.specs.Started.{started}
use Rattle.derive.specs.Macing.{mac_way, mac_begun, mac_fed, mac_ended}
use Rattle.derive.proofs.MacLaws.{started_cut, mac_begins, begun_fits as macBegunFits}
use Rattle.gost.specs.declared.Halves.{Halves}
use Rattle.gost.specs.Gost.{subkeys}
use Rattle.gost.proofs.Rounds.{Words}
use Rattle.cipher.specs.declared.Coding.{Coding}
use Rattle.cipher.specs.Code.{code_step, start as halvesStart}
use Rattle.cipher.specs.Answers.{coded_with, coded}
use Rattle.cipher.specs.Coding.{coding_of, held as codeHeld, code_way, coding_begun, code_begun, code_ended}
use Rattle.cipher.proofs.AnswerLaws.{code_key}
use Rattle.cipher.proofs.CodingLaws.{under_cut, code_begins, begun_fits as codeBegunFits}
use Rattle.parts.specs.Forms.{Form, hash_in, hash_form, mac_in, mac_form, code_in, code_form}
use Rattle.parts.specs.Lent.{lent_fits, written, begun_number, begun_after, fed_number, fed_after, ended_number, ended_after}
use Rattle.parts.specs.Statement.{Strings, more, LentAnyWay}
use Rattle.parts.proofs.LayLaws.{length-hash_out}
use Rattle.parts.proofs.WordLaws.{CoreGood, start_good, step_good, code_step_good, subkeys_below, length-subkeys, absorbed_keeps}
use Rattle.parts.proofs.FormLaws.{Good, sized, hash_again, MacGood, length-mac_out, mac_again, CodeGood, length-code_out, code_again}

-- ---- over any form and way, and any property of states that feeding keeps and under which a state is read as it was written

either : (r : Bool) → ◌≡◌ {A = ℕ} (cond r 1 1) 1
either true = refl
either false = refl

pick : {S : Type 0} (r : Bool) (g : S → List ℕ) (a s : S) → cond r (g (cond r a s)) (g s) ≡ g (cond r a s)
pick true g a s = refl
pick false g a s = refl

-- a refused beginning leaves every lent byte
pub begun_stays : {S : Type 0} (f : Form S) (r : Result S Refusal) (b : List ℕ) → (begun_number f r b ≡ 0 → ⊥) → begun_after f r b ≡ b
unfolding begun_number begun_after
begun_stays {S} f r b h = by (lent_fits f b) r h
  where
    by : (t : Bool) (r : Result S Refusal) → (cond t (number_told r) 1 ≡ 0 → ⊥) → cond t (written f r b) b ≡ b
    by true (Ok s) h = absurd (h refl)
    by true (Err q) h = refl
    by false r h = refl

begins_by : {S : Type 0} (f : Form S) (r : Result S Refusal) (b : List ℕ) → begun_number f r b ≡ cond (eqb (length b) f.size) (number_told r) 1
unfolding begun_number lent_fits
begins_by f r b = refl

module _ {S A : Type 0} (f : Form S) (w : Way S A) (P : S → Type 0) (again : (s : S) → P s → f.into (f.out s) ≡ s)
    (size : (s : S) → P s → length (f.out s) ≡ f.size) (keeps : (s : S) (m : List ℕ) → P s → Octets m → P (after w s m)) where
  begun_out : (s : S) (b : List ℕ) → length b ≡ f.size → begun_after f (Ok s) b ≡ f.out s
  unfolding begun_after lent_fits
  begun_out s b h = simp (eq-eqb (length b) f.size h)

  fed_out : (s : S) (m : List ℕ) → P s → fed_after f w (f.out s) m ≡ f.out (after w s m)
  unfolding fed_after lent_fits after
  fed_out s m p =
      ap₂ (λ (r : Bool) (x : S). cond (r && fits (w.total x) (length m)) (f.out (after w x m)) (f.out s)) (eq-eqb (length (f.out s)) f.size (size s p)) (again s p)
      ∙ pick (fits (w.total s) (length m)) f.out (counted w s m) s

  number_out : (s : S) (m : List ℕ) → P s → fed_number f w (f.out s) m ≡ part_number (w.total s) m
  unfolding fed_number lent_fits
  number_out s m p =
      ap₂ (λ (r : Bool) (x : S). cond r (part_number (w.total x) m) 1) (eq-eqb (length (f.out s)) f.size (size s p)) (again s p)

  all_kept : (ms : List (List ℕ)) (s : S) → P s → Strings ms → P (after_all (after w) s ms)
  unfolding after_all
  all_kept [] s p o = p
  all_kept (m ∷ ms) s p (more h o) = all_kept ms (after w s m) (keeps s m p h) o

  all_out : (ms : List (List ℕ)) (s : S) → P s → Strings ms → after_all (fed_after f w) (f.out s) ms ≡ f.out (after_all (after w) s ms)
  unfolding after_all
  all_out [] s p o = refl
  all_out (m ∷ ms) s p (more h o) = ap (λ (b : List ℕ). after_all (fed_after f w) b ms) (fed_out s m p) ∙ all_out ms (after w s m) (keeps s m p h) o

  -- what an end answers, by the answer of a state
  module _ (room : ℕ) (answer : S → Result (List ℕ) Refusal) where
    end_number : List ℕ → List ℕ → ℕ
    end_number b out = ended_number f room b out (answer (f.into b))

    end_after : List ℕ → List ℕ → List ℕ
    end_after b out = ended_after f room b out (answer (f.into b))

    end_number_lem : (s : S) (out : List ℕ) → P s → length out ≡ room → end_number (f.out s) out ≡ number_told (answer s)
    unfolding end_number ended_number lent_fits
    end_number_lem s out p h =
        ap₂ (λ (r : Bool) (x : S). cond (r && eqb (length out) room) (number_told (answer x)) 1) (eq-eqb (length (f.out s)) f.size (size s p)) (again s p)
        ∙ ap (λ (r : Bool). cond r (number_told (answer s)) 1) (eq-eqb (length out) room h)

    end_after_lem : (s : S) (out : List ℕ) → P s → length out ≡ room → end_after (f.out s) out ≡ result_unwrap_or (answer s) out
    unfolding end_after ended_after lent_fits
    end_after_lem s out p h =
        ap₂ (λ (r : Bool) (x : S). cond (r && eqb (length out) room) (result_unwrap_or (answer x) out) out) (eq-eqb (length (f.out s)) f.size (size s p)) (again s p)
        ∙ ap (λ (r : Bool). cond r (result_unwrap_or (answer s) out) out) (eq-eqb (length out) room h)

    -- for any bytes: what is refused leaves them
    fed_stays : (b m : List ℕ) → (fed_number f w b m ≡ 0 → ⊥) → fed_after f w b m ≡ b
    unfolding fed_number fed_after part_number
    fed_stays b m h = by (lent_fits f b) (fits (w.total (f.into b)) (length m)) h
      where
        by : (r t : Bool) → (◌≡◌ {A = ℕ} (cond r (cond t 0 1) 1) 0 → ⊥) → cond (r && t) (f.out (after w (f.into b) m)) b ≡ b
        by true true h = absurd (h refl)
        by true false h = refl
        by false t h = refl

    end_stays : (b out : List ℕ) → (end_number b out ≡ 0 → ⊥) → end_after b out ≡ out
    unfolding end_number end_after ended_number ended_after
    end_stays b out h = by (lent_fits f b && eqb (length out) room) (answer (f.into b)) h
      where
        by : (t : Bool) (r : Result (List ℕ) Refusal) → (cond t (number_told r) 1 ≡ 0 → ⊥) → cond t (result_unwrap_or r out) out ≡ out
        by true (Ok x) h = absurd (h refl)
        by true (Err q) h = refl
        by false r h = refl

    part_other : (b m : List ℕ) → (length b ≡ f.size → ⊥) → fed_number f w b m ≡ 1
    unfolding fed_number lent_fits
    part_other b m h = ap (λ (r : Bool). cond r (part_number (w.total (f.into b)) m) 1) (ne_eqb (length b) f.size h)

    end_other : (b out : List ℕ) → (length b ≡ f.size → ⊥) → end_number b out ≡ 1
    unfolding end_number ended_number lent_fits
    end_other b out h = ap (λ (r : Bool). cond (r && eqb (length out) room) (number_told (answer (f.into b))) 1) (ne_eqb (length b) f.size h)

    room_other : (b out : List ℕ) → (length out ≡ room → ⊥) → end_number b out ≡ 1
    unfolding end_number ended_number
    room_other b out h =
        ap (λ (r : Bool). cond (lent_fits f b && r) (number_told (answer (f.into b))) 1) (ne_eqb (length out) room h)
        ∙ ap (λ (r : Bool). cond r (number_told (answer (f.into b))) 1) (and-false (lent_fits f b))

    lent_any_way : {R : Type 0} (begun : S) (ended : S → R) (reply : List ℕ → R) (told_of : List ℕ → Result (List ℕ) Refusal) → P begun
        → CutAnyWay begun (λ s m. part_number (w.total s) m) (after w) ended reply
        → ((ms : List (List ℕ)) → answer (after_all (after w) begun ms) ≡ told_of (fitting 0 ms))
        → LentAnyWay f.size (begun_number f (Ok begun)) (begun_after f (Ok begun)) (fed_number f w) (fed_after f w) end_number end_after room told_of
    lent_any_way begun ended reply told_of p c ec =
        let states : (b : List ℕ) (ms : List (List ℕ)) → length b ≡ f.size → Strings ms
        → after_all (fed_after f w) (begun_after f (Ok begun) b) ms ≡ f.out (after_all (after w) begun ms) =
        λ b ms h o. ap (λ (x : List ℕ). after_all (fed_after f w) x ms) (begun_out begun b h) ∙ all_out ms begun p o in
        record {
          numbered = λ b ms m h o.
              ap (λ (x : List ℕ). fed_number f w x m) (states b ms h o) ∙ number_out (after_all (after w) begun ms) m (all_kept ms begun p o) ∙ c.numbered ms m;
          ended = λ b ms out h o l.
              let s : S = after_all (after w) begun ms in
              let k : P s = all_kept ms begun p o in (
                ap (λ (x : List ℕ). end_number x out) (states b ms h o) ∙ end_number_lem s out k l ∙ ap number_told (ec ms),
                ap (λ (x : List ℕ). end_after x out) (states b ms h o)
                    ∙ end_after_lem s out k l
                    ∙ ap (λ (r : Result (List ℕ) Refusal). result_unwrap_or r out) (ec ms),
              );
          same = λ b ms ns h o q e. states b ms h o ∙ ap f.out (c.same ms ns e) ∙ sym (states b ns h q);
          begins = begins_by f (Ok begun);
          other_part = part_other;
          other_end = end_other;
          other_room = room_other;
          unbegun = begun_stays f (Ok begun);
          unchanged = fed_stays;
          unwritten = end_stays;
        }

-- what a part that fits keeps, feeding keeps
after_keeps : {S A : Type 0} (w : Way S A) (P : S → Type 0) (s : S) (m : List ℕ) → P s → (w.total s + length m < 2 ^ 32 → P (counted w s m)) → P (after w s m)
unfolding after fits
after_keeps w P s m p k = by (fits (w.total s) (length m)) (λ e. leb-true (w.total s + length m) 4294967295 e)
  where
    by : (r : Bool) → (r ≡ true → w.total s + length m ≤ 4294967295) → P (cond r (counted w s m) s)
    by true e = let h = e refl in k (omega arith)
    by false e = p

-- a buffer with zeros after its bytes
length-filled : (n : ℕ) (t : List ℕ) → length t < n → length (filled n t) ≡ n
unfolding filled
length-filled n t h =
    let z : List ℕ = zeros (n - length t) in
    let e : length z ≡ n - length t = length-replicate {A = ℕ} (n - length t) 0 in
    length-append t z ∙ omega arith

octets-filled : (n : ℕ) (t : List ℕ) → Octets t → Octets (filled n t)
unfolding filled
octets-filled n t h = octets-append t (replicate (n - length t) 0) h (below_zeros 256 (n - length t) (lit< tt))

octets-tail : (n : ℕ) (m : List ℕ) → Octets m → Octets (tail n m)
unfolding tail
octets-tail n m h = octets-drop (length m / n * n) m h

-- ---- the hash

state_good : (c : Core) (t : List ℕ) (n : ℕ) → CoreGood c → length t < 64 → Octets t → n < 2 ^ 32 → Good (state_of c t n)
unfolding state_of
state_good c t n k l o h =
    record { core_good = k; block = length-filled 64 t l; octets = octets-filled 64 t o; less = l; most = h }

begun_good : Good begun
unfolding begun
begun_good = state_good start [] 0 start_good (lit< tt) (λ i. lit< tt) (lit< tt)

octets-held : (s : State) → Good s → Octets (held s)
unfolding held
octets-held s k = octets-take (s.fill % 64) s.buffer k.octets

poured_good : (s : State) (m : List ℕ) (n : ℕ) → Good s → Octets m → n < 2 ^ 32 → Good (poured hash_way s m n)
unfolding poured
poured_good s m n k o h =
    let x : List ℕ = held s ++ m in
    let ox : Octets x = octets-append (held s) m (octets-held s k) o in
    state_good (absorbed 64 block_step s.core x) (tail 64 x) n (absorbed_keeps CoreGood 64 block_step step_good s.core x k.core_good ox) (tail_short 64 (lit< tt) x)
    (octets-tail 64 x ox) h

counted_good : (s : State) (m : List ℕ) → Good s → Octets m → s.total + length m < 2 ^ 32 → Good (counted hash_way s m)
unfolding counted
counted_good s m k o h = poured_good s m (s.total + length m) k o h

fed_good : (s : State) (m : List ℕ) → Good s → Octets m → Good (after hash_way s m)
fed_good s m k o = after_keeps hash_way Good s m k (counted_good s m k o)

-- the cutting by value, as its numbers and states
hash_way_cut : CutAnyWay begun (λ s m. part_number s.total m) (after hash_way) ended hash256
unfolding fed part_number after
hash_way_cut =
    cut_alike (λ s m. told (counted hash_way s m) (fits s.total (length m))) (λ s m. left (counted hash_way s m) s (fits s.total (length m))) hash_cut

-- Wish 5 over lent bytes, for the hash
pub hash_lent : LentAnyWay 261 (begun_number hash_form (Ok begun)) (begun_after hash_form (Ok begun)) (fed_number hash_form hash_way) (fed_after hash_form hash_way)
    (λ b out. ended_number hash_form 32 b out (Ok (ended (hash_in b)))) (λ b out. ended_after hash_form 32 b out (Ok (ended (hash_in b)))) 32 (λ m. Ok (hash256 m))
unfolding end_number end_after
hash_lent =
    lent_any_way hash_form hash_way Good hash_again (λ s k. length-hash_out s (sized s k)) fed_good 32 (λ s. Ok (ended s)) begun ended hash256 (λ m. Ok (hash256 m)) begun_good
    hash_way_cut (λ ms. ap Ok (hash_way_cut.answered ms))

-- ---- HMAC

mac_counted : (s : Started) (m : List ℕ) → MacGood s → Octets m → s.inner.total + length m < 2 ^ 32 → MacGood (counted mac_way s m)
unfolding counted poured
mac_counted s m k o h = record { inner_good = poured_good s.inner m (s.inner.total + length m) k.inner_good o h; outer_good = k.outer_good }

mac_fed_lem : (s : Started) (m : List ℕ) → MacGood s → Octets m → MacGood (after mac_way s m)
mac_fed_lem s m k o = after_keeps mac_way MacGood s m k (mac_counted s m k o)

octets_xored : (p : ℕ) (s : List ℕ) → p < 256 → Octets s → Octets (map (λ b. bit_xor b p) s)
octets_xored p [] h o i = lit< tt
octets_xored p (x ∷ s) h o zero = xor_lt 8 x p (o zero) h
octets_xored p (x ∷ s) h o (suc i) = octets_xored p s h (λ j. o (suc j)) i

octets_pad : (p : ℕ) (key : List ℕ) → p < 256 → Octets key → Octets (key_pad p key)
unfolding key_pad
octets_pad p key h o =
    octets_xored p (key ++ replicate (64 - length key) 0) h (octets-append key (replicate (64 - length key) 0) o (below_zeros 256 (64 - length key) (lit< tt)))

begun_total : begun.total < 2 ^ 32
unfolding begun state_of
begun_total = lit< tt

started_good : (key : List ℕ) → Octets key → MacGood (started key)
unfolding started poured_into ipad opad
started_good key o =
    record {
      inner_good = poured_good begun (key_pad 0x36 key) begun.total begun_good (octets_pad 0x36 key (lit< tt) o) begun_total;
      outer_good = poured_good begun (key_pad 0x5c key) begun.total begun_good (octets_pad 0x5c key (lit< tt) o) begun_total;
    }

mac_way_cut : (key : List ℕ) → CutAnyWay (started key) (λ s m. part_number s.inner.total m) (after mac_way) mac_ended (hmac key)
unfolding mac_fed part_number after
mac_way_cut key =
    cut_alike (λ s m. told (counted mac_way s m) (fits s.inner.total (length m))) (λ s m. left (counted mac_way s m) s (fits s.inner.total (length m))) (started_cut key)

mac_under : (key : List ℕ) → Octets key
    → LentAnyWay 522 (begun_number mac_form (Ok (started key))) (begun_after mac_form (Ok (started key))) (fed_number mac_form mac_way) (fed_after mac_form mac_way)
    (λ b out. ended_number mac_form 32 b out (Ok (mac_ended (mac_in b)))) (λ b out. ended_after mac_form 32 b out (Ok (mac_ended (mac_in b)))) 32 (λ m. Ok (hmac key m))
unfolding end_number end_after
mac_under key o =
    let c = mac_way_cut key in
    lent_any_way mac_form mac_way MacGood mac_again length-mac_out mac_fed_lem 32 (λ s. Ok (mac_ended s)) (started key) mac_ended (hmac key) (λ m. Ok (hmac key m))
    (started_good key o) c (λ ms. ap Ok (c.answered ms))

-- Wish 5 over lent bytes, for HMAC
pub mac_lent : (key : List ℕ) → Octets key → length key ≡ 32
    → LentAnyWay 522 (begun_number mac_form (mac_begun key)) (begun_after mac_form (mac_begun key)) (fed_number mac_form mac_way) (fed_after mac_form mac_way)
    (λ b out. ended_number mac_form 32 b out (Ok (mac_ended (mac_in b)))) (λ b out. ended_after mac_form 32 b out (Ok (mac_ended (mac_in b)))) 32 (λ m. Ok (hmac key m))
mac_lent key o h =
    subst
    (λ (r : Result Started Refusal).
    LentAnyWay 522 (begun_number mac_form r) (begun_after mac_form r) (fed_number mac_form mac_way) (fed_after mac_form mac_way)
    (λ b out. ended_number mac_form 32 b out (Ok (mac_ended (mac_in b)))) (λ b out. ended_after mac_form 32 b out (Ok (mac_ended (mac_in b)))) 32 (λ m. Ok (hmac key m)))
    (macBegunFits key h) (mac_under key o)

-- ---- the code

coding_good : (ks : List ℕ) (h : Halves) (t : List ℕ) (n : ℕ) → length ks ≡ 8 → ((i : ℕ) → get_or ks i 0 < 2 ^ 32) → Words h → length t < 8 → Octets t → n < 2 ^ 32
    → CodeGood (coding_of ks h t n)
unfolding coding_of
coding_good ks h t n e b w l o m =
    record { eight = e; keys = b; words = w; block = length-filled 8 t l; octets = octets-filled 8 t o; less = l; most = m }

octets_code_held : (s : Coding) → CodeGood s → Octets (codeHeld s)
unfolding codeHeld
octets_code_held s k = octets-take (s.fill % 8) s.buffer k.octets

code_counted : (s : Coding) (m : List ℕ) → CodeGood s → Octets m → s.total + length m < 2 ^ 32 → CodeGood (counted code_way s m)
unfolding counted poured
code_counted s m k o h =
    let x : List ℕ = codeHeld s ++ m in
    let ox : Octets x = octets-append (codeHeld s) m (octets_code_held s k) o in
    coding_good s.subkeys (absorbed 8 (code_step s.subkeys) s.halves x) (tail 8 x) (s.total + length m) k.eight k.keys
    (absorbed_keeps Words 8 (code_step s.subkeys) (code_step_good s.subkeys) s.halves x k.words ox) (tail_short 8 (lit< tt) x) (octets-tail 8 x ox) h

code_fed_lem : (s : Coding) (m : List ℕ) → CodeGood s → Octets m → CodeGood (after code_way s m)
code_fed_lem s m k o = after_keeps code_way CodeGood s m k (code_counted s m k o)

code_start_good : (key : List ℕ) → Octets key → CodeGood (coding_begun (subkeys 8 key))
unfolding coding_begun halvesStart
code_start_good key o =
    coding_good (subkeys 8 key) halvesStart [] 0 (length-subkeys 8 key) (subkeys_below 8 key o) (record { low = lit< tt; high = lit< tt }) (lit< tt) (λ i. lit< tt) (lit< tt)

code_under : (key : List ℕ) → Octets key → length key ≡ 32
    → LentAnyWay 53 (begun_number code_form (Ok (coding_begun (subkeys 8 key)))) (begun_after code_form (Ok (coding_begun (subkeys 8 key)))) (fed_number code_form code_way)
    (fed_after code_form code_way) (λ b out. ended_number code_form 4 b out (code_ended (code_in b))) (λ b out. ended_after code_form 4 b out (code_ended (code_in b))) 4 (coded key)
unfolding end_number end_after
code_under key o h =
    let ks : List ℕ = subkeys 8 key in
    let c = under_cut ks in
    lent_any_way code_form code_way CodeGood code_again length-code_out code_fed_lem 4 code_ended (coding_begun ks) code_ended (coded_with ks) (coded key) (code_start_good key o) c
    (λ ms. c.answered ms ∙ code_key key (fitting 0 ms) h)

-- Wish 5 over lent bytes, for the code
pub code_lent : (key : List ℕ) → Octets key → length key ≡ 32
    → LentAnyWay 53 (begun_number code_form (code_begun key)) (begun_after code_form (code_begun key)) (fed_number code_form code_way) (fed_after code_form code_way)
    (λ b out. ended_number code_form 4 b out (code_ended (code_in b))) (λ b out. ended_after code_form 4 b out (code_ended (code_in b))) 4 (coded key)
code_lent key o h =
    subst
    (λ (r : Result Coding Refusal).
    LentAnyWay 53 (begun_number code_form r) (begun_after code_form r) (fed_number code_form code_way) (fed_after code_form code_way)
    (λ b out. ended_number code_form 4 b out (code_ended (code_in b))) (λ b out. ended_after code_form 4 b out (code_ended (code_in b))) 4 (coded key))
    (codeBegunFits key h) (code_under key o h)

-- a key of another length is 1 at the beginning, and nothing is written
pub mac_unbegun : (key b : List ℕ) → (length key ≡ 32 → ⊥) → begun_number mac_form (mac_begun key) b ≡ 1
mac_unbegun key b h =
    begins_by mac_form (mac_begun key) b
    ∙ ap (λ (c : ℕ). cond (eqb (length b) 522) c 1) (mac_begins key ∙ ap (λ (r : Bool). cond r 0 1) (ne_eqb (length key) 32 h))
    ∙ either (eqb (length b) 522)

pub code_unbegun : (key b : List ℕ) → (length key ≡ 32 → ⊥) → begun_number code_form (code_begun key) b ≡ 1
code_unbegun key b h =
    begins_by code_form (code_begun key) b
    ∙ ap (λ (c : ℕ). cond (eqb (length b) 53) c 1) (code_begins key ∙ ap (λ (r : Bool). cond r 0 1) (ne_eqb (length key) 32 h))
    ∙ either (eqb (length b) 53)
