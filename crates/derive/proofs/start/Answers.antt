use mathlib.Core.Path.{◌≡◌, ap₂, ◌∙◌}
use Rattle.hash.specs.States.{begun, poured_into}
use Rattle.derive.specs.Started.{started}
use Rattle.derive.specs.Hmac.{key_pad, ipad, opad}
use Rattle.derive.proofs.start.Goals as goal

pub returns : goal.returns
unfolding started ipad opad
returns c = let key = c.args.key in
    let inner : c.pour.result ≡ poured_into begun (key_pad 0x36 key) =
    c.pour.ensures ∙ ap₂ poured_into c.begin.ensures c.pad.ensures in
    let outer : c.pour-2.result ≡ poured_into begun (key_pad 0x5c key) = c.pour-2.ensures ∙ ap₂ poured_into c.begin-2.ensures c.pad-2.ensures in
    (λ k. record { inner = inner k; outer = outer k })
