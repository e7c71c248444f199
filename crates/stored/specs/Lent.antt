-- What the desk's calls over a lent table answer, and every lent byte after them, for every input: "a wrong length .. is 1 ahead of all"; "a refusal changes no
-- entry" (Wish 7). Assumes nothing.
use Rattle.std.specs.Prelude.{ℕ, ◌≡◌, Bool, false, ◌&&◌, cond, List, eqb, leb, length, replicate, Result, Ok, Err}
use Rattle.answers.specs.declared.Refusal.{Refusal}
use Rattle.answers.specs.declared.Refusal.TheVariants.{Input}
use Rattle.answers.specs.Answers.{number_told}
use Rattle.message.specs.Answers.{Written}
use Rattle.desk.specs.declared.Desk.{Desk}
use Rattle.desk.specs.declared.Checked.{Checked}
use Rattle.desk.specs.Desk.{adds, forgets}
use Rattle.desk.specs.Check.{checks}
use Rattle.desk.specs.Wrap.{unwritten, wraps}
use Rattle.stored.specs.Form.{table_in, table_out}

-- the desk of a lent table and of the keys that are lent beside it
abbrev pub lent_desk : List ℕ → List ℕ → List ℕ → Bool → List ℕ → Desk
lent_desk ac smi smc packed b = record { ac = ac; smi = smi; smc = smc; packed = packed; places = table_in b }

abbrev pub no_key : List ℕ
no_key = replicate 32 0

unfoldable pub table_fits : List ℕ → Bool
table_fits b = eqb (length b) 1600

-- what a call answers where what is lent fits, else 1
abbrev pub if_fits : {A : Type 0} → Bool → Result A Refusal → Result A Refusal
if_fits fits r = cond fits r (Err Input)

-- the lent table after an adding or a forgetting
abbrev pub table_after : Result Desk Refusal → List ℕ → List ℕ
table_after (Ok d) b = table_out d.places
table_after (Err q) b = b

-- adding and forgetting: the number, and the table after
pub record Kept (told : Result Desk Refusal) (b : List ℕ) (r : ℕ) (after : List ℕ) : Type 0 where
  pub number : r ≡ number_told told
  pub table : after ≡ table_after told b

abbrev pub adds_in : List ℕ → List ℕ → ℕ → Result Desk Refusal
adds_in b pan q = if_fits (table_fits b) (adds (lent_desk no_key no_key no_key false b) pan q)

abbrev pub forgets_in : List ℕ → List ℕ → ℕ → Result Desk Refusal
forgets_in b pan q = if_fits (table_fits b) (forgets (lent_desk no_key no_key no_key false b) pan q)

abbrev pub AddedIn : List ℕ → List ℕ → ℕ → ℕ → List ℕ → Type 0
AddedIn b pan q r after = Kept (adds_in b pan q) b r after

abbrev pub ForgottenIn : List ℕ → List ℕ → ℕ → ℕ → List ℕ → Type 0
ForgottenIn b pan q r after = Kept (forgets_in b pan q) b r after

-- card digits are taken by pairs (0) or packed (1)
unfoldable pub check_fits : List ℕ → List ℕ → ℕ → List ℕ → Bool
check_fits b issuer digits out = table_fits b && (eqb (length issuer) 32 && (leb digits 1 && eqb (length out) 8))

-- the lent table after a checking, and the slice for the ARPC
abbrev pub table_checked : Result Checked Refusal → List ℕ → List ℕ
table_checked (Ok x) b = table_out x.desk.places
table_checked (Err q) b = b

abbrev pub slice_after : Result Checked Refusal → List ℕ → List ℕ
slice_after (Ok x) out = x.arpc
slice_after (Err q) out = out

-- checking: the number, the table and the slice for the ARPC after
pub record KeptChecked (told : Result Checked Refusal) (b out : List ℕ) (r : ℕ) (after given : List ℕ) : Type 0 where
  pub number : r ≡ number_told told
  pub table : after ≡ table_checked told b
  pub slice : given ≡ slice_after told out

abbrev pub checks_in : List ℕ → List ℕ → ℕ → List ℕ → ℕ → List ℕ → List ℕ → List ℕ → List ℕ → Result Checked Refusal
checks_in b issuer digits pan q m arqc csu out =
    if_fits (check_fits b issuer digits out) (checks (lent_desk issuer no_key no_key (eqb digits 1) b) pan q m arqc csu)

abbrev pub CheckedIn : List ℕ → List ℕ → ℕ → List ℕ → ℕ → List ℕ → List ℕ → List ℕ → List ℕ → ℕ → List ℕ → List ℕ → Type 0
CheckedIn b issuer digits pan q m arqc csu out r after given = KeptChecked (checks_in b issuer digits pan q m arqc csu out) b out r after given

-- wrapping: the number and the buffer after; the table is only read
unfoldable pub wrap_fits : List ℕ → List ℕ → List ℕ → ℕ → Bool
wrap_fits b smi smc digits = table_fits b && (eqb (length smi) 32 && (eqb (length smc) 32 && leb digits 1))

unfoldable pub wraps_in : List ℕ → List ℕ → List ℕ → ℕ → List ℕ → ℕ → ℕ → List ℕ → List ℕ → List ℕ → ℕ → Written
wraps_in b smi smc digits pan q i g pin o place =
    cond (wrap_fits b smi smc digits) (wraps (lent_desk no_key smi smc (eqb digits 1) b) pan q i g pin o place) (unwritten o Input)
