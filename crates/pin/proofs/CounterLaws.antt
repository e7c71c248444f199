-- A counter block is read back as its counters, and a block that was read is a_block back. Assumes nothing.
use mathlib.Core.Path.{◌≡◌, sym, ap, ◌∙◌, subst}
use mathlib.Core.List.{List, [], ◌∷◌, ◌++◌}
use Prim.Native.Nat.{ℕ, ◌+◌, ◌≤◌, ◌<◌, ◌^◌}
use native.Mathlib.Omega.{arith}
use lib.ListN.{length, get_or, take, drop, length-drop}
use lib.Seq.{length-take-le}
use Rattle.octets.specs.Numbers.{Octets, be, be_octets, le_octets}
use Rattle.octets.proofs.NumberLaws.{be-be_octets, be_octets-be}
use Rattle.octets.proofs.Parts.{elements_all, octets-take, octets-drop}
use Rattle.pin.specs.declared.Counters.{Counters}
use Rattle.pin.specs.CounterBlock.{counter_block, counters_of}

-- the block, from the octets of each counter
pub block_made : (c : Counters) (s f d a : List ℕ) → s ≡ be_octets 2 c.session → f ≡ be_octets 2 c.failures
    → d ≡ be_octets 2 c.decipherments → a ≡ be_octets 2 c.authentications
    → get_or s 0 0 ∷ get_or s 1 0 ∷ get_or f 0 0 ∷ get_or f 1 0 ∷ get_or d 0 0 ∷ get_or d 1 0 ∷ get_or a 0 0 ∷ get_or a 1 0 ∷ [] ≡ counter_block c
unfolding counter_block be_octets le_octets
block_made c s f d a es ef ed ea = simp (es, ef, ed, ea)

same_counters : (s s' f f' d d' a a' : ℕ) → s ≡ s' → f ≡ f' → d ≡ d' → a ≡ a'
    → ◌≡◌ {A = Counters} (record { session = s; failures = f; decipherments = d; authentications = a })
    (record { session = s'; failures = f'; decipherments = d'; authentications = a' })
same_counters s s' f f' d d' a a' es ef ed ea = cc

-- the counters, each from its two octets
pub counters_made : (b : List ℕ) → length b ≡ 8 → (s f d a : ℕ) → s ≡ be (get_or b 0 0 ∷ get_or b 1 0 ∷ []) → f ≡ be (get_or b 2 0 ∷ get_or b 3 0 ∷ [])
    → d ≡ be (get_or b 4 0 ∷ get_or b 5 0 ∷ []) → a ≡ be (get_or b 6 0 ∷ get_or b 7 0 ∷ [])
    → record { session = s; failures = f; decipherments = d; authentications = a } ≡ counters_of b
unfolding counters_of
counters_made b l s f d a es ef ed ea = same_counters s _ f _ d _ a _ es ef ed ea ∙ sym (ap counters_of (elements_all b 8 l))

-- counters of 16 bits
pub record Words (c : Counters) : Type 0 where
  pub session : c.session < 256 ^ 2
  pub failures : c.failures < 256 ^ 2
  pub decipherments : c.decipherments < 256 ^ 2
  pub authentications : c.authentications < 256 ^ 2

pub counters_read : (c : Counters) → Words c → counters_of (counter_block c) ≡ c
unfolding counters_of counter_block be_octets le_octets
counters_read c w =
    same_counters _ c.session _ c.failures _ c.decipherments _ c.authentications
    (be-be_octets 2 c.session w.session) (be-be_octets 2 c.failures w.failures)
    (be-be_octets 2 c.decipherments w.decipherments) (be-be_octets 2 c.authentications w.authentications)

module _ (b : List ℕ) (e : length b ≡ 8) (o : Octets b) where
  pair : (i : ℕ) → i + 2 ≤ 8 → be_octets 2 (be (take 2 (drop i b))) ≡ take 2 (drop i b)
  pair i h =
      subst (λ (n : ℕ). be_octets n (be (take 2 (drop i b))) ≡ take 2 (drop i b))
      (length-take-le 2 (drop i b) (omega (arith, length-drop i b)))
      (be_octets-be (take 2 (drop i b)) (octets-take 2 (drop i b) (octets-drop i b o)))

  pub counters_written : counter_block (counters_of b) ≡ b
  unfolding counters_of counter_block
  counters_written =
      simp (pair 0 (omega arith), pair 2 (omega arith), pair 4 (omega arith), pair 6 (omega arith))
      (ap (λ (s : List ℕ). take 2 s ++ take 2 (drop 2 s) ++ take 2 (drop 4 s) ++ take 2 (drop 6 s)) (elements_all b 8 e) ∙ sym (elements_all b 8 e))
