-- Three useless desks: one that refuses everything, and two that are right in all but one thing. Assumes nothing.
use Prim.Native.Nat.{ℕ, suc}
use mathlib.Core.Bool.{Bool, true, false, ◌&&◌, cond}
use mathlib.Core.List.{List, [], ◌∷◌}
use lib.Dec.{eqb, leb}
use Rattle.answers.specs.declared.Refusal.TheVariants.{Input, TableFull}
use Rattle.answers.specs.Refusals.{number}
use Rattle.desks.specs.Run.{Issuer, DeskCall, Add, Forget, Check, Wrap, DeskAnswer, AnyDesk}
use Rattle.desks.specs.Book.{gives, leaves, due_after}
use Rattle.desks.specs.Sentences.{accepted}

abbrev pub refuses_everything : AnyDesk
refuses_everything = record { State = Unit {0}; start = λ k. tt; answer = λ s c. record { number = number Input; bytes = leaves c }; after = λ s c. s }

-- the others keep the issuer and calls
pub record Noted : Type 0 where
  pub issuer : Issuer
  pub calls : List DeskCall

abbrev pub noted : Issuer → List DeskCall → Noted
noted k cs = record { issuer = k; calls = cs }

abbrev pub answer_by : Issuer → DeskCall → ℕ → DeskAnswer
answer_by k c n = record { number = n; bytes = cond (eqb n 0) (gives k c) (leaves c) }

-- one never keeps a counter: it goes by the book of the calls without the checkings
abbrev pub without_check : DeskCall → List DeskCall → List DeskCall
without_check (Add pan q) cs = Add pan q ∷ cs
without_check (Forget pan q) cs = Forget pan q ∷ cs
without_check (Check pan q m arqc csu) cs = cs
without_check (Wrap pan q i g pin b place) cs = Wrap pan q i g pin b place ∷ cs

abbrev pub never_keeps : AnyDesk
never_keeps =
    record {
      State = Noted;
      start = λ k. noted k [];
      answer = λ s c. answer_by s.issuer c (due_after s.issuer s.calls c);
      after = λ s c. noted s.issuer (without_check c s.calls);
    }

-- one finds no room although a card was forgotten: of addings that are to be accepted it takes 64 and no more
abbrev pub is_adding : DeskCall → Bool
is_adding (Add pan q) = true
is_adding (Forget pan q) = false
is_adding (Check pan q m arqc csu) = false
is_adding (Wrap pan q i g pin b place) = false

unfoldable pub addings : Issuer → List DeskCall → ℕ
addings k [] = 0
addings k (c ∷ cs) = cond (is_adding c && accepted k cs c) (suc (addings k cs)) (addings k cs)

abbrev pub no_room_again : AnyDesk
no_room_again =
    record {
      State = Noted;
      start = λ k. noted k [];
      answer = λ s c.
          answer_by s.issuer c
          (cond (is_adding c && (accepted s.issuer s.calls c && leb 64 (addings s.issuer s.calls))) (number TableFull) (due_after s.issuer s.calls c));
      after = λ s c. noted s.issuer (c ∷ s.calls);
    }
