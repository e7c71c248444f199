-- Reading script templates (Wish 6): the objects in order, or the first at fault in byte order. Assumes nothing.
use Rattle.std.specs.Prelude.{ℕ, zero, suc, ◌+◌, Bool, ◌&&◌, ◌||◌, not, cond, List, [], ◌∷◌, eqb, leb, ltb, length, get_or, take, drop, set, replicate, Option, Some, None, Result, Ok, Err}
use Rattle.std.specs.Option.{is_some}
use Rattle.answers.specs.declared.Refusal.{Refusal}
use Rattle.answers.specs.declared.Refusal.TheVariants.{BadObject, TooDeep, TooMany}
use Rattle.answers.specs.Refusals.{number}
use Rattle.answers.specs.Answers.{number_told}
use Rattle.shapes.specs.Length.{largest}
use Rattle.shapes.specs.Shape.{length_of}
use Rattle.templates.specs.declared.Holder.{Holder}
use Rattle.templates.specs.declared.Holder.TheVariants.{Outer, Fresh, Begun}
use Rattle.templates.specs.declared.Object.{Object}
use Rattle.templates.specs.declared.Head.{Head}
use Rattle.templates.specs.declared.Fault.{Fault}
use Rattle.templates.specs.declared.Read.{Read}
use Rattle.templates.specs.Grammar.{outer_tag, command_tag, identifier_tag, head_size, object_at}

-- which tags stand in a holder: the top or an e1; a 71 or 72 that holds nothing yet; one that holds something
unfoldable pub stands : Holder → ℕ → Bool
stands Outer t = eqb t 0x71 || (eqb t 0x72 || eqb t outer_tag)
stands Fresh t = eqb t identifier_tag || eqb t command_tag
stands Begun t = eqb t command_tag

-- a holder once it holds one object more
unfoldable pub after : Holder → Holder
after Outer = Outer
after Fresh = Begun
after Begun = Begun

-- the tags whose data are objects, those whose data are their own, and what the first are as a holder
unfoldable pub is_template : ℕ → Bool
is_template = stands Outer

unfoldable pub is_data : ℕ → Bool
is_data = stands Fresh

unfoldable pub within : ℕ → Holder
within t = cond (eqb t outer_tag) Outer Fresh

-- the object that bytes begin with: its tag, of two bytes where they are 9f and 18; what its length field says, which follows the tag's last byte; and the size of both
unfoldable pub tag_in : List ℕ → ℕ
tag_in xs = cond (eqb (get_or xs 0 0) 0x9f && eqb (get_or xs 1 0) 0x18) identifier_tag (get_or xs 0 0)

unfoldable pub ahead : ℕ → ℕ
ahead t = cond (eqb t identifier_tag) 1 0

unfoldable pub head_for : ℕ → ℕ → Head
head_for t n = record { tag = t; length = n; size = head_size t n }

unfoldable pub head_of : List ℕ → Head
head_of xs = head_for (tag_in xs) (length_of (drop (ahead (tag_in xs)) xs))

-- "9f18 not of 4 bytes"
unfoldable pub length_fits : ℕ → ℕ → Bool
length_fits t n = not (eqb t identifier_tag) || eqb n 4

-- "16 bad object (tag out of place, bad length form, past its holder's end, 9f18 not of 4 bytes ..)": the holder has n bytes left
unfoldable pub good : Holder → Head → ℕ → Bool
good h e n = stands h e.tag && (leb e.length largest && (leb (e.size + e.length) n && length_fits e.tag e.length))

-- "at one object 16, 17, 18": an object at level l, with c objects ahead of it
unfoldable pub verdict : Bool → ℕ → ℕ → Result (Unit {0}) Refusal
verdict b l c = cond b (cond (leb l 4) (cond (ltb c 32) (Ok tt) (Err TooMany)) (Err TooDeep)) (Err BadObject)

unfoldable pub judged : Bool → ℕ → ℕ → ℕ
judged b l c = number_told (verdict b l c)

-- what was read: the objects so far; or where and why it stopped
unfoldable pub no_object : Object
no_object = record { tag = 0; level = 0; place = 0; length = 0 }

unfoldable pub begun : Read
begun = record { objects = replicate 32 no_object; count = 0; fault = None }

unfoldable pub kept : Object → Read → Read
kept o r = record { objects = set r.objects r.count o; count = r.count + 1; fault = r.fault }

unfoldable pub stopped : Refusal → ℕ → Read → Read
stopped q p r = record { objects = r.objects; count = r.count; fault = Some (record { at = p; why = q }) }

-- 01's number of it, 0 where nothing is at fault; and where the object at fault begins
abbrev pub number_of_fault : Option Fault → ℕ
number_of_fault None = 0
number_of_fault (Some f) = number f.why

abbrev pub place_of_fault : Option Fault → ℕ
place_of_fault None = 0
place_of_fault (Some f) = f.at

-- "A template holds objects, an object may be a template in turn": the object of level l that xs, at place p, begin with, and the objects in it,
-- which `inner` reads
abbrev pub Reader : Type 0
Reader = Holder → ℕ → ℕ → List ℕ → Read → Read

unfoldable pub entered : Reader → Head → Result (Unit {0}) Refusal → ℕ → ℕ → List ℕ → Read → Read
entered inner e (Ok u) l p xs r =
    cond (is_template e.tag)
    (inner (within e.tag) (l + 1) (p + e.size) (take e.length (drop e.size xs)) (kept (object_at e.tag l p e.length) r))
    (kept (object_at e.tag l p e.length) r)
entered inner e (Err q) l p xs r = stopped q p r

unfoldable pub object_read : Reader → Reader
object_read inner h l p xs r = entered inner (head_of xs) (verdict (good h (head_of xs) (length xs)) l r.count) l p xs r

-- and then the others of its holder, unless it is at fault
unfoldable pub onward : Reader → Head → Reader
onward inner e h l p xs r = cond (is_some r.fault) r (inner (after h) l (p + (e.size + e.length)) (drop (e.size + e.length) xs) r)

-- all objects of a holder whose bytes are xs; no reading takes more steps than there are bytes
unfoldable pub read_for : ℕ → Reader
read_for zero h l p xs r = r
read_for (suc k) h l p [] r = r
read_for (suc k) h l p (x ∷ xs) r = onward (read_for k) (head_of (x ∷ xs)) h l p (x ∷ xs) (object_read (read_for k) h l p (x ∷ xs) r)

unfoldable pub read_all : Reader
read_all h l p xs r = read_for (length xs) h l p xs r

-- "empty input" is 16; else the top, at level 1
unfoldable pub reading : List ℕ → Read
reading xs = cond (eqb (length xs) 0) (stopped BadObject 0 begun) (read_all Outer 1 0 xs begun)
