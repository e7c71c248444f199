use mathlib.Core.Path.{sym, ap}
use native.Mathlib.Omega.{arith}
use borrow.Author.Tests.{ne_eqb}
use Rattle.cryptogram.specs.Answers.{kind_number, kind_of}
use Rattle.cryptogram.proofs.AnswerLaws.{reads_kind}
use Rattle.cryptogram.proofs.kind_of.Goals as goal

pub returns-in-128 : goal.returns-in-128
unfolding kind_of kind_number
returns-in-128 c = reads_kind (sym (ap kind_of c.in-128.is))

pub returns-in-64 : goal.returns-in-64
unfolding kind_of kind_number
returns-in-64 c = reads_kind (sym (ap kind_of c.in-64.is))

pub returns-in-0 : goal.returns-in-0
unfolding kind_of kind_number
returns-in-0 c = reads_kind (sym (ap kind_of c.in-0.is))

pub returns-in_default : goal.returns-in_default
unfolding kind_of kind_number
returns-in_default c = reads_kind (simp (ne_eqb c.args.n 128 (λ z. omega arith), ne_eqb c.args.n 64 (λ z. omega arith), ne_eqb c.args.n 0 (λ z. omega arith)))
