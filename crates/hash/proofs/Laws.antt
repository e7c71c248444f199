-- What the crates above need: a state holds what it is made with, bytes poured one after the other are poured at once, a hash that is
-- begun, fed in any parts and ended is the hash, and a hash is 32 octets. Assumes nothing.
use mathlib.Core.Path.{◌≡◌, refl, sym, ap, ap₂, ◌∙◌, subst}
use mathlib.Core.Bool.{Bool, true, false, not, cond, true≢false}
use Rattle.std.specs.Prelude.{Result, Ok, Err}
use Rattle.std.specs.Result.{result_unwrap_or}
use Rattle.answers.specs.declared.Refusal.{Refusal}
use Rattle.answers.specs.declared.Refusal.TheVariants.{Input}
use Rattle.answers.specs.Answers.{number_told}
use mathlib.Core.List.{List, [], ◌++◌}
use Prim.Native.Nat.{ℕ, ◌+◌, ◌*◌, ◌<◌}
use native.Mathlib.Omega.{arith}
use lib.Dec.{lit<}
use lib.ListN.{length, length-drop}
use Rattle.blocks.specs.Blocks.{absorbed, tail}
use Rattle.blocks.specs.Parts.{fits, part_number, poured, counted, after, CutAnyWay}
use Rattle.blocks.proofs.Laws.{tail_short}
use Rattle.blocks.proofs.PartLaws.{held_filled, Keeps, total_poured, poured_none, poured_poured, settled_none, cut_any_way}
use Rattle.octets.specs.Numbers.{Octets}
use Rattle.octets.proofs.Parts.{octets-drop}
use Rattle.lps.specs.Vectors.{X, words, bytes}
use Rattle.lps.proofs.Bytes.{length-bytes, octets-bytes}
use Rattle.hash.specs.declared.Core.{Core}
use Rattle.hash.specs.declared.State.{State}
use Rattle.rounds.specs.Sums.{vec}
use Rattle.rounds.specs.Rounds.{constants, g_over, g}
use Rattle.hash.specs.Hash.{start, block_step, advanced, padded, closed, finished, hash256}
use Rattle.hash.specs.Ahead.{closed_over}
use Rattle.hash.specs.States.{state_of, held, hash_way, begun, poured_into, fed, ended}

pub held_state_of : (c : Core) (t : List ℕ) (n : ℕ) → length t < 64 → held (state_of c t n) ≡ t
unfolding held state_of
held_state_of c t n h = held_filled 64 t h

pub core_state_of : (c : Core) (t : List ℕ) (n : ℕ) → (state_of c t n).core ≡ c
unfolding state_of
core_state_of c t n = refl

total_state_of : (c : Core) (t : List ℕ) (n : ℕ) → (state_of c t n).total ≡ n
unfolding state_of
total_state_of c t n = refl

pub hash_keeps : Keeps hash_way
hash_keeps =
    record {
      some = lit< tt;
      step_anew = λ s c t n. refl;
      made_anew = λ s. core_state_of;
      held_anew = λ s. held_state_of;
      total_anew = λ s. total_state_of;
      anew_anew = λ s c t n d u k. refl;
    }

pub total_poured_into : (s : State) (x : List ℕ) → (poured_into s x).total ≡ s.total
unfolding poured_into
total_poured_into s x = total_poured hash_way hash_keeps s x s.total

-- parts one after the other are poured at once
pub poured_on : (s : State) (x y : List ℕ) → poured_into (poured_into s x) y ≡ poured_into s (x ++ y)
unfolding poured_into
poured_on s x y =
    let n : ℕ = s.total in
    poured_poured hash_way hash_keeps s x y n (poured hash_way s x n).total ∙ ap (poured hash_way s (x ++ y)) (total_poured hash_way hash_keeps s x n)

ended_whole : (m : List ℕ) (n : ℕ) → ended (poured hash_way begun m n) ≡ hash256 m
unfolding ended begun hash256
ended_whole m n =
    let c : Core = absorbed 64 block_step start m in
    ap (λ (s : State). finished s.core (held s)) (poured_none hash_way hash_keeps begun start 0 m n)
    ∙ ap₂ finished (core_state_of c (tail 64 m) n) (held_state_of c (tail 64 m) n (tail_short 64 (lit< tt) m))

-- the total is no part of a hash
pub ended_total : (s : State) (m : List ℕ) (n k : ℕ) → ended (poured hash_way s m n) ≡ ended (poured hash_way s m k)
unfolding ended poured held state_of
ended_total s m n k = refl

-- an answer by a test: r is what the code found, b what it tests, x the value
module _ {T : Type 0} (x : T) where
  pub refused : (r b : Bool) → r ≡ b → not r ≡ true → ◌≡◌ {A = Result T Refusal} (Err Input) (cond b (Ok x) (Err Input))
  refused true b e h = absurd (true≢false (sym h))
  refused false b e h = ap (λ (c : Bool). cond {A = Result T Refusal} c (Ok x) (Err Input)) e

  pub accepted : (r b : Bool) → r ≡ b → not r ≡ false → ◌≡◌ {A = Result T Refusal} (Ok x) (cond b (Ok x) (Err Input))
  accepted true b e h = ap (λ (c : Bool). cond {A = Result T Refusal} c (Ok x) (Err Input)) e
  accepted false b e h = absurd (true≢false h)

  -- its number, and what it leaves
  pub told : (b : Bool) → number_told (cond {A = Result T Refusal} b (Ok x) (Err Input)) ≡ cond b 0 1
  told true = refl
  told false = refl

  pub left : (y : T) (b : Bool) → result_unwrap_or (cond {A = Result T Refusal} b (Ok x) (Err Input)) y ≡ cond b x y
  left y true = refl
  left y false = refl

-- the same numbers and the same states are cut alike
pub cut_alike : {S R : Type 0} {b : S} {n k : S → List ℕ → ℕ} {x y : S → List ℕ → S} {e : S → R} {a : List ℕ → R}
    → ((s : S) (m : List ℕ) → n s m ≡ k s m) → ((s : S) (m : List ℕ) → x s m ≡ y s m) → CutAnyWay b n x e a → CutAnyWay b k y e a
cut_alike {S} {R} {b} {n} {k} {x} {y} {e} {a} p q c =
    subst (λ (f : S → List ℕ → ℕ). CutAnyWay b f y e a) (λ i s m. p s m i) (subst (λ (f : S → List ℕ → S). CutAnyWay b n f e a) (λ i s m. q s m i) c)

-- a part as the code answers it
module _ (s : State) (m : List ℕ) where
  pub fed_not : (r : Bool) → r ≡ fits s.total (length m) → not r ≡ true → Err Input ≡ fed s m
  unfolding fed
  fed_not r e h = refused (counted hash_way s m) r (fits s.total (length m)) e h

  pub fed_fits : (r : Bool) → r ≡ fits s.total (length m) → not r ≡ false → (t : State) → t ≡ poured_into s m
      → Ok (record { core = t.core; buffer = t.buffer; fill = t.fill; total = s.total + length m }) ≡ fed s m
  unfolding fed counted poured_into poured state_of
  fed_fits r e h t q =
      ap (λ (x : State). Ok (record { core = x.core; buffer = x.buffer; fill = x.fill; total = s.total + length m })) q
      ∙ accepted (counted hash_way s m) r (fits s.total (length m)) e h

-- Wish 5, for the hash
pub hash_cut : CutAnyWay begun (λ s m. number_told (fed s m)) (λ s m. result_unwrap_or (fed s m) s) ended hash256
unfolding begun counted fed part_number after
hash_cut =
    cut_alike (λ s m. sym (told (counted hash_way s m) (fits s.total (length m)))) (λ s m. sym (left (counted hash_way s m) s (fits s.total (length m))))
    (cut_any_way hash_way hash_keeps begun ended hash256 (settled_none hash_way hash_keeps begun start 0) (total_state_of start [] 0)
    (λ m. ended_whole m (begun.total + length m)))

pub ended_poured : (m : List ℕ) → ended (poured_into begun m) ≡ hash256 m
unfolding poured_into
ended_poured m = ended_whole m begun.total

pub length_over : (cs : List (List ℕ)) (n h m : List ℕ) → length (g_over cs n h m) ≡ 8
unfolding g_over X
length_over cs n h m = refl

pub length-g : (n h m : List ℕ) → length (g n h m) ≡ 8
unfolding g
length-g n h m = length_over constants n h m

-- the vector whose upper half is the hash
abbrev whole : List (List ℕ) → Core → List ℕ
whole cs c = g_over cs (vec 0) (g_over cs (vec 0) c.h c.n) c.sigma

pub length_closed_over : (cs : List (List ℕ)) (c : Core) → length (closed_over cs c) ≡ 32
unfolding closed_over
length_closed_over cs c =
    let n : length (bytes (whole cs c)) ≡ length (whole cs c) * 8 = length-bytes (whole cs c) in
    length-drop 32 (bytes (whole cs c)) ∙ omega (arith, length_over cs (vec 0) (g_over cs (vec 0) c.h c.n) c.sigma)

-- with the constants of the RFC
pub closed_over_lem : (c : Core) → closed_over constants c ≡ closed c
unfolding closed_over closed g
closed_over_lem c = refl

length-closed : (c : Core) → length (closed c) ≡ 32
length-closed c = ap length (sym (closed_over_lem c)) ∙ length_closed_over constants c

octets-closed : (c : Core) → Octets (closed c)
unfolding closed g
octets-closed c = octets-drop 32 (bytes (whole constants c)) (octets-bytes (whole constants c))

pub length-finished : (c : Core) (t : List ℕ) → length (finished c t) ≡ 32
unfolding finished
length-finished c t = length-closed (advanced c (8 * length t) (words (padded t)))

pub octets-finished : (c : Core) (t : List ℕ) → Octets (finished c t)
unfolding finished
octets-finished c t = octets-closed (advanced c (8 * length t) (words (padded t)))

pub length-hash256 : (m : List ℕ) → length (hash256 m) ≡ 32
unfolding hash256
length-hash256 m = length-finished (absorbed 64 block_step start m) (tail 64 m)

pub octets-hash256 : (m : List ℕ) → Octets (hash256 m)
unfolding hash256
octets-hash256 m = octets-finished (absorbed 64 block_step start m) (tail 64 m)
