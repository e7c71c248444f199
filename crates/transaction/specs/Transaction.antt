-- A transaction of the soft card (01, The soft card): what is open, what is pending, and when its fields are sound. Assumes nothing.
use Rattle.std.specs.Prelude.{ℕ, Bool, true, false, not, ◌&&◌, cond, List, eqb, replicate}
use Rattle.octets.specs.Same.{same}
use Rattle.pin.specs.PinBlock.{pin_fits}
use Rattle.cryptogram.specs.declared.Kind.{Kind}
use Rattle.cryptogram.specs.declared.Kind.TheVariants as kinds
use Rattle.transaction.specs.declared.Phase.{Phase}
use Rattle.transaction.specs.declared.Phase.TheVariants.{Idle, Arqc, Aac}
use Rattle.transaction.specs.declared.PendingMark.{PendingMark}
use Rattle.transaction.specs.declared.PendingMark.TheVariants.{Nothing, Set, Clear}
use Rattle.transaction.specs.declared.Transaction.{Transaction}

abbrev pub is_open : Phase → Bool
is_open Idle = false
is_open Arqc = true
is_open Aac = true

abbrev pub is_unmarked : PendingMark → Bool
is_unmarked Nothing = true
is_unmarked Set = false
is_unmarked Clear = false

-- none open: "all transaction fields are zero"
abbrev pub none : Transaction
none =
    record { phase = Idle; cryptogram = replicate 8 0; pin = replicate 12 0; count = 0; mark = Nothing; spoilt = false }

-- "a pending PIN likewise (count and places all zero where none is pending)"
unfoldable pub pending_fits : ℕ → List ℕ → Bool
pending_fits n p = cond (eqb n 0) (same p (replicate 12 0)) (pin_fits 0 n p)

-- "with none open all transaction fields are zero"
unfoldable pub rest_fits : Transaction → Bool
rest_fits t =
    cond (is_open t.phase) true (same t.cryptogram (replicate 8 0) && (eqb t.count 0 && (is_unmarked t.mark && not t.spoilt)))

-- the same opening with what is pending and the spoilt mark set anew
abbrev pub went_on : Transaction → List ℕ → ℕ → PendingMark → Bool → Transaction
went_on t p n m s = record { phase = t.phase; cryptogram = t.cryptogram; pin = p; count = n; mark = m; spoilt = s }

-- with its spoilt mark set, and with another PIN and mark pending
abbrev pub spoilt : Transaction → Transaction
spoilt t = went_on t t.pin t.count t.mark true

abbrev pub with_pending : Transaction → List ℕ → ℕ → PendingMark → Transaction
with_pending t p n m = went_on t p n m t.spoilt

-- "Kind is AAC if the kept block mark is set, else ARQC."
abbrev pub kind_for : Bool → Kind
kind_for true = kinds.Aac
kind_for false = kinds.Arqc

abbrev pub phase_for : Bool → Phase
phase_for true = Aac
phase_for false = Arqc

-- a transaction just opened
abbrev pub just_opened : Bool → List ℕ → Transaction
just_opened mark cryptogram =
    record { phase = phase_for mark; cryptogram = cryptogram; pin = replicate 12 0; count = 0; mark = Nothing; spoilt = false }

-- the issuer answers "in an open ARQC transaction"
abbrev pub is_arqc : Phase → Bool
is_arqc Idle = false
is_arqc Arqc = true
is_arqc Aac = false

-- the pending mark that a command orders, and the mark after what is pending
abbrev pub mark_for : Bool → PendingMark
mark_for true = Set
mark_for false = Clear

abbrev pub mark_after : PendingMark → Bool → Bool
mark_after Nothing b = b
mark_after Set b = true
mark_after Clear b = false
