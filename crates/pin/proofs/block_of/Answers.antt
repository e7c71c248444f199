use mathlib.Core.Path.{ap, ◌∙◌}
use mathlib.Core.List.{List, map}
use Prim.Native.Nat.{ℕ, ◌%◌}
use lib.ListN.{length}
use Rattle.octets.specs.Digits.{pairs}
use Rattle.pin.specs.PinBlock.{fields, pin_block}
use Rattle.pin.proofs.BlockLaws.{fits, small_kept, small_fields}
use Rattle.pin.proofs.block_of.Goals as goal

pub fields_of-requires : goal.fields_of-requires
fields_of-requires c = (fits _ _ _ c.requires).most

pub returns : goal.returns
unfolding pin_block
returns c = let p = c.args.pin.now in
    c.join.ensures ∙ ap (λ (s : List ℕ). pairs 16 (map (λ x. x % 16) s)) c.fields_of.ensures
    ∙ ap (pairs 16) (small_kept (fields p) (small_fields p (fits 0 (length p) p c.requires)))
