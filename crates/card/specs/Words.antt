-- Words that are lent for master keys (docs/TIGHT.md, More than one outcome): what whoever lends 256 of them owes. Assumes nothing.
use Rattle.std.specs.Prelude.{ℕ, ◌≡◌, List, length}
use Rattle.derive.specs.Kept.{kept_words}
use Rattle.card.specs.Record.{Masters}

-- 256 words are those of the key kept; any other number of words is none
abbrev pub Fits : List ℕ → List ℕ → Type 0
Fits ws key = length ws ≡ 256 → ws ≡ kept_words key

abbrev pub FitAll : List ℕ → List ℕ → List ℕ → Masters → Type 0
FitAll ac smi smc m = Fits ac m.ac × Fits smi m.smi × Fits smc m.smc
