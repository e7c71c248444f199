-- A card that is added goes to the first free place, and a table of 64 places without one is full. Assumes nothing.
use Prim.Native.Nat.{ℕ, suc, ◌≤◌}
use native.Mathlib.Omega.{arith}
use native.Mathlib.Numerals.{add-one}
use mathlib.Core.Path.{◌≡◌, refl, sym, ap, ◌∙◌}
use mathlib.Core.Bool.{Bool, true, false, not, ◌||◌, cond}
use mathlib.Core.List.{List, [], ◌∷◌}
use lib.ListN.{length, set}
use Rattle.std.specs.Prelude.{Err}
use Rattle.answers.specs.declared.Refusal.TheVariants.{TableFull}
use Rattle.table.specs.declared.CardId.{CardId}
use Rattle.table.specs.declared.Entry.{Entry}
use Rattle.table.specs.Table.{held, room}
use Rattle.table.specs.Calls.{fresh, placed, adding}
use Rattle.table.specs.Inner.{free_place}

pub free_placed : (c : CardId) (t : List Entry) → (free_place t ≡ length t → ⊥) → (room t ≡ true) × (set t (free_place t) (fresh c) ≡ placed c t)
unfolding free_place room placed
free_placed c [] h = absurd (h refl)
free_placed c (e ∷ t) h = go e.held h (free_placed c t)
  where
    go : (b : Bool) → (cond b (suc (free_place t)) 0 ≡ suc (length t) → ⊥) → ((free_place t ≡ length t → ⊥) → (room t ≡ true) × (set t (free_place t) (fresh c) ≡ placed c t))
        → ((not b || room t) ≡ true) × (set (e ∷ t) (cond b (suc (free_place t)) 0) (fresh c) ≡ cond b (e ∷ placed c t) (fresh c ∷ t))
    go true p ih =
        let x = ih (λ q. p (ap suc q)) in
        (x.0, ap (λ (z : List Entry). e ∷ z) x.1)
    go false p ih = (refl, refl)

pub no_room : (t : List Entry) → free_place t ≡ length t → room t ≡ false
unfolding free_place room
no_room [] h = refl
no_room (e ∷ t) h = go e.held h (no_room t)
  where
    go : (b : Bool) → cond b (suc (free_place t)) 0 ≡ suc (length t) → (free_place t ≡ length t → room t ≡ false) → (not b || room t) ≡ false
    go true p ih = ih (omega (arith, p, add-one (free_place t), add-one (length t)))
    go false p ih = let w : ⊥ = omega (arith, p, add-one (length t)) in absurd w

free_le : (t : List Entry) → free_place t ≤ length t
unfolding free_place
free_le [] = omega arith
free_le (e ∷ t) = go e.held (free_le t)
  where
    go : (b : Bool) → free_place t ≤ length t → cond b (suc (free_place t)) 0 ≤ suc (length t)
    go true p = omega (arith, add-one (free_place t), add-one (length t))
    go false p = omega arith

-- 21: the card is not held, and no place of the 64 is free
pub add_full : (c : CardId) (t : List Entry) (b : Bool) → b ≡ held c t → b ≡ false → (i : ℕ) → i ≡ free_place t → length t ≡ 64 → 64 ≤ i → Err TableFull ≡ adding c t
unfolding adding
add_full c t b w h i f g k = rw (sym w ∙ h, no_room t (let l = free_le t in omega arith))
