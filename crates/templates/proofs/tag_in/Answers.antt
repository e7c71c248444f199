use borrow.Author.Rules.{rules}
use Rattle.templates.proofs.LeafLaws.{tag_one, tag_lone, tag_two}
use Rattle.templates.proofs.tag_in.Goals as goal
use Rattle.templates.proofs.tag_in.Goals.{else-first-eq159-via-then-first-eq159+else-byte_at-eq24, else-first-eq159-via-else-first-eq159}

pub returns-then-byte_at-eq24 : goal.returns-then-byte_at-eq24
returns-then-byte_at-eq24 c = search (tag_two, rules)

pub returns-else-first-eq159 : goal.returns-else-first-eq159
returns-else-first-eq159 c =
    elim c.else-first-eq159.branch [
      | else-first-eq159-via-then-first-eq159+else-byte_at-eq24 w ↦ tag_lone _ _ _ c.byte_at-first.ensures w.byte_at.ensures w.if-byte_at-eq24.false
      | else-first-eq159-via-else-first-eq159 w ↦ tag_one _ _ c.byte_at-first.ensures w.if-first-eq159.false
    ]
