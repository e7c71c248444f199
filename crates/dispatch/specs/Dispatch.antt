-- What a line of the clerk's trace carries, whatever the record: a call of the card, a personalisation, or neither (01, The clerk's trace). Assumes nothing.
use Rattle.std.specs.Prelude.{ℕ, ◌||◌, cond, List, eqb, length, take, drop, get_or}
use Rattle.octets.specs.Numbers.{be}
use Rattle.card.specs.Calls.{Call, Open, IssuerAnswer, Script, Close, Withdraw, Counters, CheckPin}
use Rattle.lines.specs.Lines.{octets_of, readable}
use Rattle.frames.specs.Frames.{part, tries_in}
use Rattle.history.specs.Run.{Loading}

-- nothing that can be read; a frame 00 of a wrong length; a frame 00; a call; a frame 04, 05 or 06 with bytes after its first, which calls nothing
pub data Frame : Type 0 where
  unreadable misfit : Frame
  personalise : Loading → Frame
  call : Call → Frame
  surplus : Call → List ℕ → Frame

-- "00 personalise (keys AC, SMI, SMC, 96 bytes, counter 2, counter block 8, mark 00 or 01, clear PIN block 8 ..)"; the tries at its end (Wish 4)
abbrev pub loading_in : List ℕ → Loading
loading_in s =
    record {
      ac = part 0 32 s;
      smi = part 32 32 s;
      smc = part 64 32 s;
      atc = be (part 96 2 s);
      counters = part 98 8 s;
      mark = get_or s 106 0;
      block = part 107 8 s;
      tries = tries_in s;
    }

-- "A wrong frame length for a fixed frame .. is 1": a frame with no bytes after its first, or with some
abbrev pub alone : Call → List ℕ → Frame
alone c s = cond (eqb (length s) 0) (call c) (surplus c s)

-- "01 Open, 02 Issuer answer (ARPC 8, CSU 4), 03 Script, 04 Close, 05 Withdraw, 06 Counters"; 07 a PIN check (Wish 4): the first byte, and the rest
unfoldable pub frame_of : ℕ → List ℕ → Frame
frame_of f s =
    cond (eqb f 0) (cond (eqb (length s) 115 || eqb (length s) 116) (personalise (loading_in s)) misfit)
    (cond (eqb f 1) (call (Open s))
    (cond (eqb f 2) (call (IssuerAnswer (take 8 s) (drop 8 s)))
    (cond (eqb f 3) (call (Script (take 4 s) (drop 4 s)))
    (cond (eqb f 4) (alone Close s)
    (cond (eqb f 5) (alone Withdraw s)
    (cond (eqb f 6) (alone Counters s) (call (CheckPin s))))))))

-- a line
unfoldable pub frame_in : List ℕ → Frame
frame_in l = cond (readable l) (frame_of (get_or (octets_of l) 0 0) (drop 1 (octets_of l))) unreadable
