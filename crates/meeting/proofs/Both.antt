-- Desk and card meet, both ways. Assumes nothing.
use Rattle.meeting.specs.Meeting.{DeskCard}
use Rattle.meeting.proofs.Wrapped.{wrap_accepted}
use Rattle.meeting.proofs.Checked.{open_accepted}

pub desk_card : DeskCard
desk_card = record { wrapped = wrap_accepted; opened = open_accepted }
