-- `unchecked::step` meets its contract: each way out is how the definition's call ends there. Assumes nothing.
use Prim.Native.Nat.{◌+◌, ◌*◌}
use Rattle.unchecked.proofs.WholeCall.{place_inside, taking-of, acting-of}
use Rattle.acts.proofs.Outcomes.{token-inside}
use mathlib.Core.Path.{ap}
use Rattle.unchecked.proofs.step.step.Goals as goal

pub place_at-token-requires : goal.place_at-token-requires
place_at-token-requires c = place_inside c.requires.is

pub node-requires : goal.node-requires
node-requires c = let r = c.requires.is in
    token-inside (taking-of r {row = 0} (c.place_at-token.ensures _ r.lawful.holds.codes))

pub act-requires : goal.act-requires
act-requires c = let r = c.requires.is in
    let codes = r.lawful.holds.codes in
    record {
      machine = c.requires.machine;
      is = acting-of r
          (c.place_at-token.ensures _ codes)
          (ap (λ n. 67 + 12 * n)
          (c.node.ensures _ codes));
    }

pub returns : goal.returns
returns c = λ m r one. let codes = r.lawful.holds.codes in
    c.act.ensures m
    (acting-of r (c.place_at-token.ensures m codes)
    (ap (λ n. 67 + 12 * n)
    (c.node.ensures m codes))) one
