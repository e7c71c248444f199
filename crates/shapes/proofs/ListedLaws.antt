-- Which command is listed first, test by test. Assumes nothing.
use Prim.Native.Nat.{ℕ}
use mathlib.Core.Path.{◌≡◌, sym, ◌∙◌}
use mathlib.Core.Bool.{Bool, true, false}
use mathlib.Core.List.{List}
use Rattle.std.specs.Prelude.{Ok, Err}
use Rattle.answers.specs.declared.Refusal.TheVariants.{NotListed}
use Rattle.shapes.specs.declared.command.Command.TheVariants.{SetPin, SetMark, ClearMark}
use Rattle.shapes.specs.Command.{is_for, listed, first_of, command_of}

module _ (header : List ℕ) (tag n : ℕ) (a : Bool) (e : a ≡ is_for SetPin header tag n) where
  pub sets_pin : a ≡ true → Ok SetPin ≡ command_of header tag n
  unfolding first_of listed
  sets_pin x = simp (sym e ∙ x)

  module _ (x : a ≡ false) (b : Bool) (f : b ≡ is_for SetMark header tag n) where
    pub sets_mark : b ≡ true → Ok SetMark ≡ command_of header tag n
    unfolding first_of listed
    sets_mark y = simp (sym e ∙ x, sym f ∙ y)

    module _ (y : b ≡ false) (c : Bool) (g : c ≡ is_for ClearMark header tag n) where
      pub clears_mark : c ≡ true → Ok ClearMark ≡ command_of header tag n
      unfolding first_of listed
      clears_mark z = simp (sym e ∙ x, sym f ∙ y, sym g ∙ z)

      pub none_listed : c ≡ false → Err NotListed ≡ command_of header tag n
      unfolding first_of listed
      none_listed z = simp (sym e ∙ x, sym f ∙ y, sym g ∙ z)
