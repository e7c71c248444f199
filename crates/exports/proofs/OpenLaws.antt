-- What opening a message finds are bytes. Assumes nothing.
use mathlib.Core.Path.{◌≡◌, refl, sym}
use mathlib.Core.List.{List}
use Prim.Native.Nat.{ℕ, ◌≤◌}
use native.Mathlib.Omega.{arith}
use Rattle.std.specs.Prelude.{Ok}
use Rattle.shapes.specs.declared.Found.{Found}
use Rattle.shapes.specs.Answers.{found_in, shaped}
use Rattle.shapes.proofs.AnswerLaws.{tells_shaped, told_data, shaped_good}
use Rattle.message.specs.Answers.{opened}
use Rattle.message.proofs.Return.{taken}

pub small : (key header m : List ℕ) (f : Found) → opened key header m ≡ Ok f → (f.place ≤ 3) × (f.length ≤ 255)
small key header m f e =
    let t = taken key header m f.tag f.place f.length e in
    let w = told_data m (shaped m) (found_in m) (tells_shaped m refl) (sym (shaped_good m t.shaped_so)) in
    (omega arith, omega arith)
