-- The fields of a transaction that is not open. Assumes nothing.
use mathlib.Core.Path.{◌≡◌, sym, ◌∙◌}
use mathlib.Core.Bool.{Bool, false, not}
use lib.ListN.{replicate}
use borrow.Author.Tests.{eq-eqb, not-false}
use Rattle.octets.specs.Same.{same}
use Rattle.transaction.specs.declared.Transaction.{Transaction}
use Rattle.transaction.specs.Transaction.{is_open, is_unmarked, rest_fits}

module _ (t : Transaction) (o : Bool) (a : o ≡ is_open t.phase) where
  module _ (h : o ≡ false) (x : Bool) (e : x ≡ same t.cryptogram (replicate 8 0)) where
    module _ (u : Bool) (d : u ≡ is_unmarked t.mark) where
      pub rest_all : not x ≡ false → t.count ≡ 0 → not u ≡ false → not t.spoilt ≡ rest_fits t
      unfolding rest_fits
      rest_all f n g = simp (sym a ∙ h, sym e ∙ not-false x f, eq-eqb _ _ n, sym d ∙ not-false u g)
