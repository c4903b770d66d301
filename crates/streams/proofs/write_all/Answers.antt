-- What a write takes stands right behind what was written before.
use Rattle.std.proofs.Common.{◌≡◌, ℕ, ◌+◌, ◌-◌, List, ◌++◌, arith, length, length-drop, take, drop, sym, ap, ◌∙◌, subst}
use Rattle.std.proofs.lemmas.List.{take_rest}
use Rattle.std.specs.Io.KnownBytes.{Appends}
use Rattle.std.proofs.KnownBytes.{Appends-trans}
use lib.Seq.{take-add, drop-drop}
use Rattle.streams.proofs.write_all.Goals as goal

module _ (bytes rest : List ℕ) (done n : ℕ) (behind : rest ≡ drop done bytes) where
  taken_more : take done bytes ++ take n rest ≡ take (done + n) bytes
  taken_more = ap (λ l. take done bytes ++ take n l) behind ∙ sym (take-add done n bytes)

  rest_more : take (length rest - n) (drop n rest) ≡ drop (done + n) bytes
  rest_more = take_rest rest n ∙ ap (drop n) behind ∙ drop-drop n done bytes

  size : length rest ≡ length bytes - done
  size = ap length behind ∙ length-drop done bytes

pub loop-rest-preserved : goal.loop-rest-preserved
loop-rest-preserved g c =
    let before = c.loop-rest.invariant in
    let n = c.in_ok-taken.taken in
    let bytes = c.args.bytes.now in
    let rest = c.loop-rest.rest.now in
    let long = size bytes rest before.done n before.behind in
    let few = c.in_ok-taken.ensures.bound in
    let within = before.within in
    record {
      done = before.done + n;
      within = omega arith;
      behind = rest_more bytes rest before.done n before.behind;
      before =
          subst (Appends _ _) (taken_more bytes rest before.done n before.behind)
          (Appends-trans _ _ _ _ _ before.before c.in_ok-taken.ensures.bytes);
    }
