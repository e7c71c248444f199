-- Wish 7 as a demand on any desk: each answer is the one that the book says, which is read off the calls alone; and that leaves no choice. Assumes nothing.
use Rattle.std.specs.Prelude.{◌≡◌, List}
use Rattle.desks.specs.Run.{Issuer, DeskCall, AnyDesk, answered}
use Rattle.desks.specs.Book.{due_after, gives, leaves}

pub record Demanded (d : AnyDesk) : Type 0 where
  pub numbers : (k : Issuer) (cs : List DeskCall) (c : DeskCall) → (answered d k cs c).number ≡ due_after k cs c
  pub given : (k : Issuer) (cs : List DeskCall) (c : DeskCall) → (answered d k cs c).number ≡ 0 → (answered d k cs c).bytes ≡ gives k c
  pub refused : (k : Issuer) (cs : List DeskCall) (c : DeskCall) → ((answered d k cs c).number ≡ 0 → ⊥) → (answered d k cs c).bytes ≡ leaves c

-- two desks that nobody can tell apart: the same answer to every call after every run
abbrev pub SameDesk : AnyDesk → AnyDesk → Type 0
SameDesk d e = (k : Issuer) (cs : List DeskCall) (c : DeskCall) → answered d k cs c ≡ answered e k cs c

abbrev pub NoOtherDesk : Type 1
NoOtherDesk = (d e : AnyDesk) → Demanded d → Demanded e → SameDesk d e
