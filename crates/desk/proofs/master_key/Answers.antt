use borrow.Author.Rules.{rules}
use Rattle.desk.proofs.DeskLaws.{is_given, packed_given, pairs_given, master_packed, master_pairs}
use Rattle.desk.proofs.master_key.Goals as goal

pub unwrap-requires : goal.unwrap-requires
unwrap-requires c = is_given _ _ (packed_given c.args.packed c.args.issuer _ _ _ (search rules) c.requires c.card_key_packed.ensures)

pub unwrap-requires-else-packed : goal.unwrap-requires-else-packed
unwrap-requires-else-packed c = is_given _ _ (pairs_given c.args.packed c.args.issuer _ _ _ (search rules) c.requires c.card_key.ensures)

pub returns-then-packed : goal.returns-then-packed
returns-then-packed c = search (master_packed, rules)

pub returns-else-packed : goal.returns-else-packed
returns-else-packed c = search (master_pairs, rules)
