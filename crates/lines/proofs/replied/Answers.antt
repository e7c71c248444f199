use Rattle.lines.proofs.SaidLaws.{replied_refused, replied_opened, replied_counted, replied_plain}
use Rattle.lines.proofs.replied.Goals as goal

pub returns-then-reply-ne0 : goal.returns-then-reply-ne0
returns-then-reply-ne0 c = search replied_refused

pub returns-in-1 : goal.returns-in-1
returns-in-1 c = search replied_opened

pub returns-in-6 : goal.returns-in-6
returns-in-6 c = search replied_counted

pub returns-in_default : goal.returns-in_default
returns-in_default c = search replied_plain
