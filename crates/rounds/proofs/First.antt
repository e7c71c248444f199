-- The round keys of the first block, each computed from the one before. Assumes nothing.
use Rattle.std.proofs.Common.{◌≡◌, ℕ, List, [], ◌∷◌, ◌++◌, get_or, drop, replicate, refl, ap, ◌∙◌}
use Rattle.octets.specs.Numbers.{le, le_octets}
use Rattle.tables.specs.Tables.{pi, A}
use Rattle.tables.specs.Matrix.{lin, l}
use Rattle.lps.specs.Vectors.{bytes, words, tau, X, S, P, L, LPS}
use Rattle.rounds.specs.Constants.{C}
use Rattle.rounds.specs.Sums.{vec, lowest}
use Rattle.rounds.specs.Rounds.{constants}
use Rattle.rounds.specs.Keys.{schedule, keys_of}

-- the round keys of the first block of every hash, where N is 0 and h is IV, 64 bytes 01
unfoldable pub first_keys : List ℕ
first_keys = keys_of (replicate 8 0) (replicate 8 0x0101010101010101)

abbrev K1 : List ℕ
K1 =
    0x23c5ee40b07b5f15 ∷ 0x23c5ee40b07b5f15 ∷ 0x23c5ee40b07b5f15 ∷ 0x23c5ee40b07b5f15 ∷
    0x23c5ee40b07b5f15 ∷ 0x23c5ee40b07b5f15 ∷ 0x23c5ee40b07b5f15 ∷ 0x23c5ee40b07b5f15 ∷ []

abbrev K2 : List ℕ
K2 =
    0x0c7d0cc39d4a5eb9 ∷ 0xe611d68c8401bfcd ∷ 0x9c7e6b5eea633511 ∷ 0xda22de93a66a66b1 ∷
    0x451cfab6a904a549 ∷ 0x349769df88be26bf ∷ 0x3bd6cb8233694cea ∷ 0x18ee8f3176b2ebea ∷ []

abbrev K3 : List ℕ
K3 =
    0xfd74af4101805f2d ∷ 0xc7f68e73ba26fb00 ∷ 0x915000cd674be12c ∷ 0xce0913f1253e7757 ∷
    0x940bba1a519e9d1f ∷ 0xbf27dee21164c5e3 ∷ 0x57aec8ce91e7fd46 ∷ 0xaaa4cf31a2659591 ∷ []

abbrev K4 : List ℕ
K4 =
    0x8200311920839286 ∷ 0x2067fb5ddd6ac156 ∷ 0x98d01ef0602b0e33 ∷ 0xcd801ea9dd743a0d ∷
    0xa54228aeca9c4585 ∷ 0xa5329a2236747bf8 ∷ 0x0235e2afadded326 ∷ 0x61fe0a65cc177af5 ∷ []

abbrev K5 : List ℕ
K5 =
    0x99a5d5309fe73d5a ∷ 0xd595394cc199bf69 ∷ 0x0a546acd63d960ba ∷ 0x169bd540af75e161 ∷
    0xe4693c86c06c7d4e ∷ 0xe2934314aa2ecb3e ∷ 0x1fd5abb75fbf26a8 ∷ 0x9983685f4fd3636f ∷ []

abbrev K6 : List ℕ
K6 =
    0xbe297c13c0f7a156 ∷ 0xaf98c83c22cdb0e2 ∷ 0xd170990a86602088 ∷ 0x62615d907eb0551a ∷
    0x922994e52820ffea ∷ 0xf1e735d613946e32 ∷ 0x156c9a7fbcc6b8fd ∷ 0xf05772ae2ce7f025 ∷ []

abbrev K7 : List ℕ
K7 =
    0xfcf03d9b81cfbb8d ∷ 0x51a9b18cfc8e4098 ∷ 0xb7b005a43e5959a6 ∷ 0xc89eb6b35167f159 ∷
    0x0b2b8d0e6be2b5ac ∷ 0x7453e9c321197433 ∷ 0x46b3e7688829fbb7 ∷ 0x5ad144c362546e4e ∷ []

abbrev K8 : List ℕ
K8 =
    0xc1f191a539016daa ∷ 0xb0a0ad5790dfb73f ∷ 0x8d6c746adcd5426f ∷ 0x018287e5a9f509c7 ∷
    0x83332fe0b8efdac9 ∷ 0x518c638ed530122a ∷ 0xb64fa840b934352b ∷ 0x6a6cec9a1ba20a8d ∷ []

abbrev K9 : List ℕ
K9 =
    0x2b8fb6a8f5dd0409 ∷ 0x367d5f9437443538 ∷ 0xd82e0e2069fc49ed ∷ 0xbb4c9d580a224e9c ∷
    0xe35fa35fee9dd8bd ∷ 0xf351531f948f0fc5 ∷ 0x8a8d6643f705bd51 ∷ 0x99217036737aa9b3 ∷ []

abbrev K10 : List ℕ
K10 =
    0xd74fe5393ccb05d2 ∷ 0xca8fdf678fcb337b ∷ 0x76f83022f2526791 ∷ 0xf0b35d80a7317a7f ∷
    0xd703c35d2e62aeaf ∷ 0x9a7630e8bfd6c3fe ∷ 0xe69288d8ec9e9dda ∷ 0x906763c0fc89fa1a ∷ []

abbrev K11 : List ℕ
K11 =
    0x3d695c0bfc89add5 ∷ 0x159c8c624c3fe6e1 ∷ 0x52ce34af272f96d3 ∷ 0xd6a1dae9a6dc6ddf ∷
    0xbff3c29d38dadb6e ∷ 0x4e2ae3eee68991bb ∷ 0x04a5c8e03ee43385 ∷ 0x88ce996c63618e64 ∷ []

abbrev K12 : List ℕ
K12 =
    0x1d7b5a0f7655f2db ∷ 0xe75a49c68199112a ∷ 0x628e8365d8798477 ∷ 0xb55f30c79982ca45 ∷
    0x76b978fccaa32f38 ∷ 0x506aa168cf829157 ∷ 0x3eec550100576f3a ∷ 0x3e0a281ea9bd4606 ∷ []

abbrev K13 : List ℕ
K13 =
    0xfcf9eca06500bf03 ∷ 0x0ef9f5e03c907fa1 ∷ 0x19ff433e76ef6adb ∷ 0x14b21cffc51e3fa3 ∷
    0x3f6cbab54ed18b83 ∷ 0x62c848422b6a92f9 ∷ 0xe432fbae18672122 ∷ 0xf0b273409eb31aeb ∷ []

unfoldable pub first : List ℕ
first = K1 ++ K2 ++ K3 ++ K4 ++ K5 ++ K6 ++ K7 ++ K8 ++ K9 ++ K10 ++ K11 ++ K12 ++ K13

first_key : LPS (X (replicate 8 0x0101010101010101) (replicate 8 0)) ≡ K1
unfolding LPS L words P S bytes X le le_octets l lin A pi tau
first_key = refl

key1 : LPS (X K1 (vec (get_or C 0 0))) ≡ K2
unfolding LPS L words P S bytes X le le_octets l lin A pi tau C vec lowest
key1 = refl

key2 : LPS (X K2 (vec (get_or C 1 0))) ≡ K3
unfolding LPS L words P S bytes X le le_octets l lin A pi tau C vec lowest
key2 = refl

key3 : LPS (X K3 (vec (get_or C 2 0))) ≡ K4
unfolding LPS L words P S bytes X le le_octets l lin A pi tau C vec lowest
key3 = refl

key4 : LPS (X K4 (vec (get_or C 3 0))) ≡ K5
unfolding LPS L words P S bytes X le le_octets l lin A pi tau C vec lowest
key4 = refl

key5 : LPS (X K5 (vec (get_or C 4 0))) ≡ K6
unfolding LPS L words P S bytes X le le_octets l lin A pi tau C vec lowest
key5 = refl

key6 : LPS (X K6 (vec (get_or C 5 0))) ≡ K7
unfolding LPS L words P S bytes X le le_octets l lin A pi tau C vec lowest
key6 = refl

key7 : LPS (X K7 (vec (get_or C 6 0))) ≡ K8
unfolding LPS L words P S bytes X le le_octets l lin A pi tau C vec lowest
key7 = refl

key8 : LPS (X K8 (vec (get_or C 7 0))) ≡ K9
unfolding LPS L words P S bytes X le le_octets l lin A pi tau C vec lowest
key8 = refl

key9 : LPS (X K9 (vec (get_or C 8 0))) ≡ K10
unfolding LPS L words P S bytes X le le_octets l lin A pi tau C vec lowest
key9 = refl

key10 : LPS (X K10 (vec (get_or C 9 0))) ≡ K11
unfolding LPS L words P S bytes X le le_octets l lin A pi tau C vec lowest
key10 = refl

key11 : LPS (X K11 (vec (get_or C 10 0))) ≡ K12
unfolding LPS L words P S bytes X le le_octets l lin A pi tau C vec lowest
key11 = refl

key12 : LPS (X K12 (vec (get_or C 11 0))) ≡ K13
unfolding LPS L words P S bytes X le le_octets l lin A pi tau C vec lowest
key12 = refl

step : (c : List ℕ) (cs : List (List ℕ)) (k : List ℕ) {next rest : List ℕ} → LPS (X k c) ≡ next → schedule cs next ≡ rest → schedule (c ∷ cs) k ≡ k ++ rest
unfolding schedule
step c cs k e r = ap (λ (x : List ℕ). k ++ schedule cs x) e ∙ ap (λ (x : List ℕ). k ++ x) r

pub first_right : first_keys ≡ first
unfolding first_keys keys_of constants C schedule first
first_right =
    ap (schedule constants) first_key
    ∙ step _ (drop 1 constants) K1 key1 (step _ (drop 2 constants) K2 key2 (step _ (drop 3 constants) K3 key3 (step _ (drop 4 constants) K4 key4 (step _ (drop 5 constants) K5 key5 (step _ (drop 6 constants) K6 key6 (step _ (drop 7 constants) K7 key7 (step _ (drop 8 constants) K8 key8 (step _ (drop 9 constants) K9 key9 (step _ (drop 10 constants) K10 key10 (step _ (drop 11 constants) K11 key11 (step _ (drop 12 constants) K12 key12 refl)))))))))))
