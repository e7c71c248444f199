-- The desk of the library for C, which keeps its table as bytes, answers every call of every run as the desk by value does (Wish 7: "keeps up to 64 cards").
-- Assumes nothing.
use Rattle.std.specs.Prelude.{ℕ, ◌<◌, ◌≡◌, cond, List, [], length, get_or, replicate, Result}
use Rattle.answers.specs.declared.Refusal.{Refusal}
use Rattle.answers.specs.Answers.{number_told}
use Rattle.table.specs.declared.Entry.{Entry}
use Rattle.table.specs.Calls.{empty}
use Rattle.desk.specs.declared.Checked.{Checked}
use Rattle.stored.specs.Form.{table_in, table_out}
use Rattle.stored.specs.Lent.{adds_in, forgets_in, checks_in, wraps_in, table_after, table_checked, slice_after}
use Rattle.desks.specs.Run.{Issuer, DeskCall, Add, Forget, Check, Wrap, DeskAnswer, AnyDesk, answered, our_desk}

-- an entry whose parts have the sizes of the bytes that are kept of it; what is written of such entries is read as the same
pub record Sized (e : Entry) : Type 0 where
  pub digits : length e.id.digits ≡ 19
  pub last : e.last < 65536

abbrev pub ReadsWritten : Type 0
ReadsWritten = (t : List Entry) → length t ≡ 64 → ((i : ℕ) → Sized (get_or t i empty)) → table_in (table_out t) ≡ t

-- what a host has: the issuer's keys, and the table's bytes
pub record Host : Type 0 where
  pub issuer : Issuer
  pub table : List ℕ

-- how card digits are taken, as a number
abbrev pub digits_of : Issuer → ℕ
digits_of k = cond k.packed 1 0

-- a checking by the bytes of the table, a slice of eight zeros lent for the ARPC
abbrev pub host_checks : Host → List ℕ → ℕ → List ℕ → List ℕ → List ℕ → Result Checked Refusal
host_checks h pan q m arqc csu = checks_in h.table h.issuer.ac (digits_of h.issuer) pan q m arqc csu (replicate 8 0)

abbrev pub host_answer : Host → DeskCall → DeskAnswer
host_answer h (Add pan q) = record { number = number_told (adds_in h.table pan q); bytes = [] }
host_answer h (Forget pan q) = record { number = number_told (forgets_in h.table pan q); bytes = [] }
host_answer h (Check pan q m arqc csu) =
    let r = host_checks h pan q m arqc csu in
    record { number = number_told r; bytes = slice_after r (replicate 8 0) }
host_answer h (Wrap pan q i g pin b place) =
    let w = wraps_in h.table h.issuer.smi h.issuer.smc (digits_of h.issuer) pan q i g pin b place in
    record { number = w.code; bytes = w.buffer }

abbrev pub host_table : Host → DeskCall → List ℕ
host_table h (Add pan q) = table_after (adds_in h.table pan q) h.table
host_table h (Forget pan q) = table_after (forgets_in h.table pan q) h.table
host_table h (Check pan q m arqc csu) = table_checked (host_checks h pan q m arqc csu) h.table
host_table h (Wrap pan q i g pin b place) = h.table

-- the host: from 1,600 zeros on, each call over the bytes that the one before left
abbrev pub host : AnyDesk
host =
    record {
      State = Host;
      start = λ k. record { issuer = k; table = replicate 1600 0 };
      answer = host_answer;
      after = λ h c. record { issuer = h.issuer; table = host_table h c };
    }

-- keys of 32 bytes, as all are that reach a desk
pub record Keys (k : Issuer) : Type 0 where
  pub ac : length k.ac ≡ 32
  pub smi : length k.smi ≡ 32
  pub smc : length k.smc ≡ 32

-- the calls whose numbers and octets have the sizes that a program can pass: the data are octets
pub record Octet (c : DeskCall) : Type 0 where
  pub counter : (pan : List ℕ) (q : ℕ) (m arqc csu : List ℕ) → c ≡ Check pan q m arqc csu → (i : ℕ) → get_or m i 0 < 256

abbrev pub LentIsDesk : Type 0
LentIsDesk = (k : Issuer) (cs : List DeskCall) (c : DeskCall) → Keys k → ((i : ℕ) → Octet (get_or cs i (Forget [] 0))) → answered host k cs c ≡ answered our_desk k cs c
