-- The cycle of the object's reader and the template's. Each call has fewer bytes left, but that of the object's reader by the template's, which has as many:
-- so twice the bytes are counted, and one more for the template's.
use Rattle.std.proofs.Common.{◌+◌, ◌*◌, length}
use Rattle.templates.proofs.+read_object_read_template.Given as goal

abbrev pub decreases-read_object : goal.decreases-read_object
decreases-read_object l = 2 * length l.xs.now

abbrev pub decreases-read_template : goal.decreases-read_template
decreases-read_template l = 2 * length l.xs.now + 1
