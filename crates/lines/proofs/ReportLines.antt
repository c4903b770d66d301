-- The line of a reply, case by case. Assumes nothing.
use mathlib.Core.Path.{◌≡◌, sym, ◌∙◌, ap}
use mathlib.Core.Logic.{◌⊎◌, inl, inr}
use mathlib.Core.List.{List, [], ◌∷◌}
use Prim.Native.Nat.{ℕ, ◌<◌, min}
use native.Mathlib.Decide.{dec_lt}
use native.Mathlib.Omega.{arith}
use lib.IntN.{ℤ}
use lib.ListN.{length, take}
use lib.Seq.{take_all}
use Rattle.model.specs.Output.Line.{Line, text_of, text_of_all, call, publish, refused}
use Rattle.model.specs.Output.Orcrun.{reported_lines}
use Rattle.model.specs.Machine.Reply.{number_of}
use Rattle.model.specs.declared.reply.Refusal.{Refusal}
use Rattle.model.specs.declared.reply.Reply.{Reply}
use Rattle.model.specs.declared.reply.Reply.TheVariants as replies
use Rattle.lines.specs.Report.{reply_text}
use Rattle.lines.proofs.LineParts.{text-one}

-- the text of a reply, by its case
module _ (reply : Reply) (values : List ℤ) where
  one_line : (l : Line) → reported_lines reply values ≡ l ∷ [] → text_of l ≡ reply_text reply values
  one_line l e = text-one l ∙ ap text_of_all (sym e)

  pub tells-publish : (v : ℤ) → reply ≡ replies.Published v → text_of (publish v) ≡ reply_text reply values
  unfolding reported_lines
  tells-publish v e = one_line (publish v) (ap (λ (r : Reply). reported_lines r values) e)

  -- (there are four values, so as many as four of them are all)
  pub tells-call : (h s k j : ℕ) → length values ≡ 4 → reply ≡ replies.Called h s k → j ≡ min k 4
      → text_of (call h s (take j values)) ≡ reply_text reply values
  unfolding reported_lines
  tells-call h s k j four e m =
      one_line (call h s (take j values))
      (ap (λ (r : Reply). reported_lines r values) e ∙ ap (λ (vs : List ℤ). call h s vs ∷ []) front)
    where
      front : take k values ≡ take j values
      front = go (dec_lt k 5)
        where
          go : Dec (k < 5) → take k values ≡ take j values
          go (yes l) = let same : k ≡ j = omega arith in ap (λ (i : ℕ). take i values) same
          go (no l) = take_all k values (omega arith) ∙ sym (take_all j values (omega arith))

  pub tells-refusal : (k : ℕ) (r : Refusal) → reply ≡ replies.Refused r → k ≡ number_of r → text_of (refused k) ≡ reply_text reply values
  unfolding reported_lines
  tells-refusal k r e m =
      one_line (refused k) (ap (λ (r : Reply). reported_lines r values) e ∙ ap (λ (i : ℕ). refused i ∷ []) (sym m))

  quiet : reported_lines reply values ≡ [] → [] ≡ reply_text reply values
  unfolding text_of_all
  quiet e = ap text_of_all (sym e)

  pub tells-nothing : (reply ≡ replies.Done) ⊎ (reply ≡ replies.Waits) → [] ≡ reply_text reply values
  unfolding reported_lines
  tells-nothing (inl e) = quiet (ap (λ (r : Reply). reported_lines r values) e)
  tells-nothing (inr e) = quiet (ap (λ (r : Reply). reported_lines r values) e)
