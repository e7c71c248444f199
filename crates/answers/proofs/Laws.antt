-- No refusal has the number of an acceptance. Assumes nothing.
use mathlib.Core.Path.{◌≡◌, refl}
use mathlib.Core.Bool.{false}
use lib.Dec.{eqb}
use Rattle.answers.specs.declared.Refusal.{Refusal}
use Rattle.answers.specs.declared.Refusal.TheVariants.{Input, CardNumber, NoRoom, ShapeWrong, NotListed, PhaseWrong, CounterFull, CodeDiffers, PinFormat, SpoiltClosed, ArpcDiffers, PinDigits, Unreadable, WrongPin, NoTries, BadObject, TooDeep, TooMany, UnknownCard, AlreadyHeld, TableFull, ArqcDiffers, CounterNotAbove}
use Rattle.answers.specs.Refusals.{number}

pub not_zero : (q : Refusal) → eqb (number q) 0 ≡ false
not_zero Input = refl
not_zero CardNumber = refl
not_zero NoRoom = refl
not_zero ShapeWrong = refl
not_zero NotListed = refl
not_zero PhaseWrong = refl
not_zero CounterFull = refl
not_zero CodeDiffers = refl
not_zero PinFormat = refl
not_zero SpoiltClosed = refl
not_zero ArpcDiffers = refl
not_zero PinDigits = refl
not_zero Unreadable = refl
not_zero WrongPin = refl
not_zero NoTries = refl
not_zero BadObject = refl
not_zero TooDeep = refl
not_zero TooMany = refl
not_zero UnknownCard = refl
not_zero AlreadyHeld = refl
not_zero TableFull = refl
not_zero ArqcDiffers = refl
not_zero CounterNotAbove = refl
