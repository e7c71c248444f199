-- A vector word by word. Assumes nothing.
use mathlib.Core.Path.{◌≡◌, refl}
use mathlib.Core.List.{[], ◌∷◌}
use Prim.Native.Nat.{ℕ, zero, suc, ◌<◌}
use native.Mathlib.Omega.{arith}
use lib.Dec.{lit<}
use lib.ListN.{get_or}
use Rattle.lps.specs.Vectors.{each}

pub each_equal : {f g : ℕ → ℕ} → ((i : ℕ) → i < 8 → f i ≡ g i) → each f ≡ each g
each_equal h =
    λ k. h 0 (lit< tt) k ∷ h 1 (lit< tt) k ∷ h 2 (lit< tt) k ∷ h 3 (lit< tt) k ∷ h 4 (lit< tt) k ∷ h 5 (lit< tt) k ∷ h 6 (lit< tt) k ∷ h 7 (lit< tt) k ∷ []

pub each_at : (f : ℕ → ℕ) (i : ℕ) → i < 8 → get_or (each f) i 0 ≡ f i
each_at f zero h = refl
each_at f (suc zero) h = refl
each_at f (suc (suc zero)) h = refl
each_at f (suc (suc (suc zero))) h = refl
each_at f (suc (suc (suc (suc zero)))) h = refl
each_at f (suc (suc (suc (suc (suc zero))))) h = refl
each_at f (suc (suc (suc (suc (suc (suc zero)))))) h = refl
each_at f (suc (suc (suc (suc (suc (suc (suc zero))))))) h = refl
each_at f (suc (suc (suc (suc (suc (suc (suc (suc i)))))))) h = absurd (omega arith)
