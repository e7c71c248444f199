-- What a line is answered (01, The clerk's trace). Assumes nothing.
use Rattle.std.specs.Prelude.{ℕ, true, false, cond, List, [], ◌∷◌, eqb}
use Rattle.card.specs.declared.Card.{Card}
use Rattle.card.specs.declared.Reply.{Reply}
use Rattle.card.specs.Personalise.{blank}
use Rattle.lines.specs.declared.Held.{Held}

-- a record, and none
abbrev pub holding : Card → Held
holding r = record { exists = true; card = r }

abbrev pub nothing : Held
nothing = record { exists = false; card = blank }

-- what a line is answered: the record after it, if there is one, and the octets of the answer
pub record LineAnswer : Type 0 where
  pub after : Held
  pub octets : List ℕ

-- the number alone
abbrev pub numbered : Held → ℕ → LineAnswer
numbered h n = record { after = h; octets = n ∷ [] }

-- "the number as a byte, then for an accepted 01 80 (ARQC) or 00 (AAC) and the cryptogram, for an accepted 06 the 8 bytes"
unfoldable pub octets_for : ℕ → Reply → List ℕ
octets_for f p =
    cond (eqb p.code 0)
    (cond (eqb f 1) (0 ∷ p.kind ∷ p.bytes) (cond (eqb f 6) (0 ∷ p.bytes) (0 ∷ [])))
    (p.code ∷ [])

unfoldable pub replied : ℕ → Reply → LineAnswer
replied f p = record { after = holding p.card; octets = octets_for f p }
