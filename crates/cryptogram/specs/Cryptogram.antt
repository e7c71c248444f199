-- Application cryptograms (001, clauses 4.1 and 4.2). Assumes nothing.
use Rattle.std.specs.Prelude.{ℕ, List, ◌∷◌, ◌++◌, replicate}
use Rattle.cipher.specs.Code.{code_of}
use Rattle.cryptogram.specs.declared.Kind.{Kind}
use Rattle.cryptogram.specs.Data.{card_data}

-- 01: "the 4-byte code of these, written twice", under the subkeys of the session key
unfoldable pub twice : List ℕ → List ℕ
twice c = c ++ c

unfoldable pub double_code : List ℕ → List ℕ → List ℕ
double_code ks s = twice (code_of ks s)

-- 4.1: D, 80, six 00
unfoldable pub string : Kind → ℕ → List ℕ → List ℕ
string kind atc d = card_data kind atc d ++ 0x80 ∷ replicate 6 0

unfoldable pub cryptogram_of : List ℕ → Kind → ℕ → List ℕ → List ℕ
cryptogram_of ks kind atc d = double_code ks (string kind atc d)

-- 4.2: ARQC, CSU, four 00, 80, fifty-five 00
unfoldable pub arpc_string : List ℕ → List ℕ → List ℕ
arpc_string cryptogram csu = cryptogram ++ csu ++ replicate 4 0 ++ 0x80 ∷ replicate 55 0

unfoldable pub arpc_of : List ℕ → List ℕ → List ℕ → List ℕ
arpc_of ks cryptogram csu = double_code ks (arpc_string cryptogram csu)
