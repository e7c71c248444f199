use mathlib.Core.Path.{sym}
use lib.Seq.{length-take-le}
use Rattle.trace.proofs.KeptLaws.{kept_within, fit_all, left_ready}
use borrow.Author.Rules.{rules}
use Rattle.trace.proofs.turn.Goals as goal

pub slice_bounds-feed_kept-end-2 : goal.slice_bounds-feed_kept-end-2
slice_bounds-feed_kept-end-2 c = sym (length-take-le _ _ (kept_within c.keep_used-used.ensures.of_ac))

pub slice_bounds-feed_kept-end-4 : goal.slice_bounds-feed_kept-end-4
slice_bounds-feed_kept-end-4 c = sym (length-take-le _ _ (kept_within c.keep_used-used.ensures.of_smi))

pub slice_bounds-feed_kept-end-6 : goal.slice_bounds-feed_kept-end-6
slice_bounds-feed_kept-end-6 c = sym (length-take-le _ _ (kept_within c.keep_used-used.ensures.of_smc))

pub feed_kept-fed-requires : goal.feed_kept-fed-requires
feed_kept-fed-requires c = fit_all c.keep_used-used.ensures

pub returns : goal.returns
returns c = record {
  feeds = c.feed_kept-fed.ensures;
  long = search (rules, c.feed_kept-fed.type_inv);
  ready = left_ready _ _ _ _ _ _ _ _ c.feed_kept-fed.ensures c.keep_used-used.ensures c.left-have.ensures;
}
