use Rattle.cryptogram.specs.declared.Kind.{Kind}
use mathlib.Core.Path.{sym, ap}
use Rattle.cryptogram.specs.Data.{marked, kind_bits}
use Rattle.cryptogram.proofs.mark.Goals as goal

pub returns-in-Arqc : goal.returns-in-Arqc
unfolding marked kind_bits
returns-in-Arqc c = sym (ap (λ (k : Kind). marked k c.args.b) c.in-Arqc.is)

pub returns-in-Tc : goal.returns-in-Tc
unfolding marked kind_bits
returns-in-Tc c = sym (ap (λ (k : Kind). marked k c.args.b) c.in-Tc.is)

pub returns-in-Aac : goal.returns-in-Aac
unfolding marked kind_bits
returns-in-Aac c = sym (ap (λ (k : Kind). marked k c.args.b) c.in-Aac.is)
