use Rattle.card.proofs.CallLaws.{unsound, open_busy, open_input, open_atc, open_session, open_done}
use Rattle.card.proofs.Card.open_kept.Goals as goal
use Rattle.card.proofs.Card.open_kept.Goals.{then-self-eq65535-via-then-self-eq65535, then-self-eq65535-via-else-self-eq65535+then-self-eq65535-2}

pub returns-then-not-is_sound : goal.returns-then-not-is_sound
returns-then-not-is_sound c = search unsound

pub returns-then-is_open : goal.returns-then-is_open
returns-then-is_open c = search open_busy

pub returns-then-input-ne65 : goal.returns-then-input-ne65
returns-then-input-ne65 c = search open_input

pub returns-then-self-eq65535 : goal.returns-then-self-eq65535
returns-then-self-eq65535 c = elim c.then-self-eq65535.branch [ then-self-eq65535-via-then-self-eq65535 w ↦ search open_atc | then-self-eq65535-via-else-self-eq65535+then-self-eq65535-2 w ↦ search open_session ]

pub returns : goal.returns
returns c = λ fits. let e = c.opening.ensures fits in search open_done
