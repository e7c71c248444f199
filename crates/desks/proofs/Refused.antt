-- "a refusal changes no entry", of every desk and every call, and no lent byte. Assumes nothing.
use Prim.Native.Nat.{ℕ, ◌+◌}
use mathlib.Core.Path.{◌≡◌, refl}
use mathlib.Core.Bool.{Bool, true, false, cond}
use mathlib.Core.List.{List}
use lib.Dec.{eqb, leb}
use lib.ListN.{length}
use Rattle.std.specs.Prelude.{Result, Ok, Err}
use Rattle.answers.specs.declared.Refusal.{Refusal}
use Rattle.answers.specs.declared.Refusal.TheVariants.{Input, CardNumber, NoRoom, PinDigits, UnknownCard}
use Rattle.answers.specs.Answers.{number_told}
use Rattle.octets.specs.Laid.{laid}
use Rattle.keys.specs.CardNumber.{card_fits}
use Rattle.message.specs.Answers.{Written}
use Rattle.shapes.specs.declared.command.Command.{Command}
use Rattle.table.specs.Table.{held}
use Rattle.desk.specs.declared.Desk.{Desk}
use Rattle.desk.specs.declared.Checked.{Checked}
use Rattle.desk.specs.Desk.{id_of, adds, forgets, desk_after}
use Rattle.desk.specs.Check.{checks, after_check}
use Rattle.desk.specs.Wrap.{ordered, script_of, pin_good, carried, script, unwritten, writes, wraps_command, wraps_order, wraps_listed, wraps}
use Rattle.desks.specs.Sentences.{RefusalLeaves}

-- a desk that is refused is the caller's
desk_kept : (r : Result Desk Refusal) (d : Desk) → (number_told r ≡ 0 → ⊥) → desk_after r d ≡ d
desk_kept (Ok e) d z = absurd (z refl)
desk_kept (Err q) d z = refl

check_kept : (r : Result Checked Refusal) (d : Desk) → (number_told r ≡ 0 → ⊥) → (after_check r d).desk ≡ d
check_kept (Ok e) d z = absurd (z refl)
check_kept (Err q) d z = refl

module _ (d : Desk) (pan : List ℕ) (q : ℕ) where
  module _ (g pin b : List ℕ) (place : ℕ) where
    Kept : Written → Type 0
    Kept w = (w.code ≡ 0 → ⊥) → w.buffer ≡ b

    writes_kept : (s : List ℕ) → Kept (writes s b place)
    unfolding Kept writes
    writes_kept s = go (leb (place + length s) (length b))
      where
        go : (x : Bool) → Kept (cond x (record { code = 0; buffer = laid b place s }) (unwritten b NoRoom))
        go true z = absurd (z refl)
        go false z = refl

    order_kept : (c : Command) → Kept (wraps_order d pan q c g pin b place)
    unfolding Kept wraps_order wraps_command
    order_kept c = go (card_fits pan q) (held (id_of pan q) d.places) (pin_good c pin)
      where
        s : Written
        s = writes (script c (script_of d.packed d.smi pan q g) (carried c (script_of d.packed d.smc pan q g) pin)) b place

        go : (x y z : Bool) → Kept (cond x (cond y (cond z s (unwritten b PinDigits)) (unwritten b UnknownCard)) (unwritten b CardNumber))
        go true true true w = writes_kept _ w
        go true true false w = refl
        go true false z w = refl
        go false y z w = refl

    listed_kept : (l : Result Command Refusal) → Kept (wraps_listed d pan q l g pin b place)
    unfolding Kept
    listed_kept (Err r) z = refl
    listed_kept (Ok c) z = go (eqb (length g) 8) z
      where
        go : (x : Bool) → Kept (cond x (wraps_order d pan q c g pin b place) (unwritten b Input))
        go true w = order_kept c w
        go false w = refl

    pub wrap_refused : (i : ℕ) → ((wraps d pan q i g pin b place).code ≡ 0 → ⊥) → (wraps d pan q i g pin b place).buffer ≡ b
    unfolding Kept wraps
    wrap_refused i = listed_kept (ordered i)

pub refusal_leaves : RefusalLeaves
refusal_leaves d =
    record {
      adding = λ pan q. desk_kept (adds d pan q) d;
      forgetting = λ pan q. desk_kept (forgets d pan q) d;
      checking = λ pan q m arqc csu. check_kept (checks d pan q m arqc csu) d;
      wrapping = λ pan q i g pin b place. wrap_refused d pan q g pin b place i;
    }
