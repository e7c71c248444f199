use Rattle.card.proofs.CallLaws.{unsound, answer_phase, answer_arpc, answer_csu, answer_differs, answer_done}
use Rattle.card.proofs.Card.issuer_answer_kept.Goals as goal
use Rattle.card.proofs.Card.issuer_answer_kept.Goals.{then-arpc-ne8-via-then-arpc-ne8, then-arpc-ne8-via-else-arpc-ne8+then-csu-ne4}

pub returns-then-not-is_sound : goal.returns-then-not-is_sound
returns-then-not-is_sound c = search unsound

pub returns-then-not-is_arqc : goal.returns-then-not-is_arqc
returns-then-not-is_arqc c = search answer_phase

pub returns-then-arpc-ne8 : goal.returns-then-arpc-ne8
returns-then-arpc-ne8 c = elim c.then-arpc-ne8.branch [ then-arpc-ne8-via-then-arpc-ne8 w ↦ search answer_arpc | then-arpc-ne8-via-else-arpc-ne8+then-csu-ne4 w ↦ search answer_csu ]

pub returns-then-not-same : goal.returns-then-not-same
returns-then-not-same c = λ fits. let e = c.arpc_for-own.ensures (c.session_key.ensures fits) in search answer_differs

pub returns : goal.returns
returns c = λ fits. let e = c.arpc_for-own.ensures (c.session_key.ensures fits) in search answer_done
