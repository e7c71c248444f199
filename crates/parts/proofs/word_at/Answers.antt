-- `parts::word_at` meets its contract: std's word is ours. Assumes nothing.
use mathlib.Core.Path.{◌≡◌, ap, ◌∙◌}
use lib.ListN.{length}
use Rattle.octets.specs.Numbers.{le}
use Rattle.parts.proofs.LayLaws.{word_read}
use borrow.Author.Rules.{rules}
use Rattle.parts.proofs.word_at.Goals as goal

pub returns : goal.returns
returns c = let r = c.bytes_at in
    let n : length r.result ≡ 4 = search (rules, r.type_inv) in
    c.from_le_bytes.ensures ∙ word_read r.result n ∙ ap le r.ensures
