-- What a read gives stands right behind what was read before.
use Rattle.std.proofs.Common.{◌≡◌, ℕ, ◌+◌, ◌-◌, ◌≤◌, List, ◌++◌, length, take, drop}
use Rattle.std.proofs.Common.{rules, sym, ap, ◌∙◌, subst, drop_at, length-take-le}
use Rattle.std.specs.Io.KnownBytes.{Consumes}
use Rattle.std.proofs.KnownBytes.{Consumes-trans}
use borrow.Rule.Slice.PartMut.{put_mid, post_of, take_put}
use lib.Seq.{take-add, take-append-le}
use Rattle.streams.proofs.read_full.Goals as goal

read_more : (done room n : ℕ) (before given : List ℕ) → done ≤ length before → n ≤ length given
    → take done before ++ take n given ≡ take (done + n) (put_mid done room before given)
read_more done room n before given within fits =
    let after = put_mid done room before given in
    let behind = post_of done room before in
    let front : take done after ≡ take done before = take_put done room before given within in
    let parted = drop_at (take done before) (given ++ behind) done (length-take-le done before within) in
    let back : take n (drop done after) ≡ take n given = ap (take n) parted ∙ take-append-le n given behind fits in
    ap (λ l. l ++ take n given) (sym front) ∙ ap (λ l. take done after ++ l) (sym back) ∙ sym (take-add done n after)

pub loop-done-preserved : goal.loop-done-preserved
loop-done-preserved g c =
    let done = c.loop-done.done in
    let buf = c.loop-done.buf in
    let more = read_more done (length buf - done) c.in_ok-given.given buf c.read.new.buf (search rules) (search rules) in
    (search rules, subst (Consumes _ _) more (Consumes-trans _ _ _ _ _ c.loop-done.invariant.1 c.in_ok-given.ensures.bytes.0))
