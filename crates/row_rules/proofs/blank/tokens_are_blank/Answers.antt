-- `blank::tokens_are_blank` meets its contract: each token from the place on is tested by its words. Assumes nothing.
use mathlib.Core.Bool.{true, ◌&&◌}
use mathlib.Core.Path.{◌≡◌, refl, sym, ap, subst, ◌∙◌}
use Prim.Native.Nat.{ℕ, ◌+◌, ◌-◌, ◌<◌, ◌≤◌}
use native.Mathlib.Decide.{dec_lt}
use native.Mathlib.Omega.{arith}
use lib.ListN.{get_or, drop, length-drop}
use lib.Seq.{get_or-drop}
use Rattle.job.specs.Test.{for_all}
use Rattle.job.proofs.Both.{both}
use Rattle.job.proofs.Loop.{all-turn, done}
use Rattle.job.proofs.Test.{and_left, and_right}
use Rattle.model.specs.Machine.Blank.{blank_token, token_at, token_is_blank}
use Rattle.coded.specs.WordTests.{token_coded}
use Rattle.row_rules.proofs.blank.tokens_are_blank.Goals as goal

pub loop-p-init : goal.loop-p-init
unfolding for_all
loop-p-init c =
    let none : c.args.from - c.args.from ≡ 0 = omega arith in
    record { coded = λ e q l h. absurd (omega arith); blank = λ m h. rw none refl }

pub loop-p-preserved : goal.loop-p-preserved
unfolding token_at
loop-p-preserved c = record {
  coded = λ e q l h. go e q l h (dec_lt q c.loop-p.p);
  blank =
      λ m h.
      let long = h.shaped.tokens in
      let rest = length-drop c.args.from m.tokens in
      let more : c.loop-p.p + 1 - c.args.from ≡ c.loop-p.p - c.args.from + 1 = omega arith in
      let at : c.args.from + (c.loop-p.p - c.args.from) ≡ c.loop-p.p = omega arith in
      let row : get_or (drop c.args.from m.tokens) (c.loop-p.p - c.args.from) blank_token ≡ get_or m.tokens c.loop-p.p blank_token
      = get_or-drop c.args.from m.tokens (c.loop-p.p - c.args.from) blank_token ∙ ap (λ i. get_or m.tokens i blank_token) at in
      rw more
      (all-turn token_is_blank (drop c.args.from m.tokens) (c.loop-p.p - c.args.from) blank_token (omega arith) (c.loop-p.invariant.blank m h)
      (c.token_is_blank-blank.ensures.1 m h ∙ ap token_is_blank (sym row)));
}
  where
    go : (c.loop-p.blank && c.token_is_blank-blank.result) ≡ true → (q : ℕ) → c.args.from ≤ q → q < c.loop-p.p + 1 → Dec (q < c.loop-p.p)
        → token_coded c.args.w.now q ≡ true
    go e q l h (yes before) = c.loop-p.invariant.coded (and_left _ _ (sym (both refl refl) ∙ e)) q l before
    go e q l h (no f) =
        let last : c.loop-p.p ≡ q = omega arith in
        subst (λ i. token_coded c.args.w.now i ≡ true) last (c.token_is_blank-blank.ensures.0 (and_right _ _ (sym (both refl refl) ∙ e)))

pub returns : goal.returns
returns c = (
  λ e p l h. c.loop-p.invariant.coded e p l (omega arith),
  λ m h.
      let long = h.shaped.tokens in
      let rest = length-drop c.args.from m.tokens in
      done (for_all token_is_blank) (drop c.args.from m.tokens) (c.loop-p.p - c.args.from) (omega arith) (c.loop-p.invariant.blank m h),
)
