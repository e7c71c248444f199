use mathlib.Core.Path.{refl}
use Rattle.std.proofs.Common.{rules, tests}
use Rattle.stored.proofs.FormLaws.{read_made}
use Rattle.stored.proofs.table_in.Goals as goal

pub returns : goal.returns
returns c = read_made c.args.b.now _ _ _ refl c.from_fn.ensures.items (λ k y q d. search (rules, tests))
