use mathlib.Core.Path.{sym, ap, ◌∙◌}
use mathlib.Core.List.{List, [], ◌∷◌}
use Prim.Native.Nat.{ℕ}
use lib.ListN.{get_or}
use Rattle.std.specs.Prelude.{Err}
use Rattle.std.proofs.lemmas.Result.{err_from_is_err_and}
use Rattle.cipher.specs.Answers.{enciphered}
use Rattle.octets.specs.Numbers.{be_octets, le_octets}
use Rattle.keys.specs.Seeds.{idn_block}
use Rattle.keys.proofs.AnswerLaws.{idn_short, idn_long, idn_ok, idn_err}
use Rattle.keys.proofs.idn.Goals.{then-n-lt2-via-then-n-lt2, then-n-lt2-via-else-n-lt2+then-n-gt8}
use Rattle.keys.proofs.idn.Goals as goal

pub returns-then-n-lt2 : goal.returns-then-n-lt2
returns-then-n-lt2 c = elim c.then-n-lt2.branch [
  | then-n-lt2-via-then-n-lt2 w ↦ idn_short _ _ _ w.if-n-lt2.true
  | then-n-lt2-via-else-n-lt2+then-n-gt8 w ↦ idn_long _ _ _ w.if-n-gt8.true
]

pub returns-in_err-b : goal.returns-in_err-b
unfolding idn_block be_octets le_octets
returns-in_err-b c = let x = c.args in
    let p = err_from_is_err_and c.from_residual.result c.from_residual.ensures.1 in
    p.1 ∙ ap Err p.2
    ∙ idn_err x.key.now x.counter x.n c.if-n-lt2.false c.if-n-gt8.false _
    (sym c.in_err-b.was
    ∙ c.encipher.ensures
    ∙ ap (λ (s : List ℕ). enciphered x.key.now (get_or s 0 0 ∷ get_or s 1 0 ∷ 0 ∷ 0 ∷ 0 ∷ 0 ∷ 0 ∷ 0 ∷ [])) c.high_first-c.ensures)

pub returns : goal.returns
unfolding idn_block be_octets le_octets
returns c = let x = c.args in
    idn_ok x.key.now x.counter x.n c.if-n-lt2.false c.if-n-gt8.false _ c.first.result
    (sym c.in_ok-b.was
    ∙ c.encipher.ensures
    ∙ ap (λ (s : List ℕ). enciphered x.key.now (get_or s 0 0 ∷ get_or s 1 0 ∷ 0 ∷ 0 ∷ 0 ∷ 0 ∷ 0 ∷ 0 ∷ [])) c.high_first-c.ensures)
    c.first.ensures
