-- A row that is copied or cleared at once: a paste of its words. Assumes nothing.
use mathlib.Core.Path.{◌≡◌, refl, sym, ap, subst, ◌∙◌}
use mathlib.Core.List.{List, ◌++◌}
use Prim.Native.Nat.{ℕ, ◌+◌, ◌*◌, ◌<◌}
use native.Mathlib.Omega.{arith}
use lib.ListN.{length, take, drop, replicate, length-drop}
use lib.Seq.{paste, take_all, length-take-le}
use borrow.Rule.Slice.PartMut.{put_mid}
use Rattle.std.proofs.lemmas.Slice.{put_mid-paste}
use Rattle.job.proofs.Lists.{part-is}
use Rattle.model.specs.Machine.Blank.{blank_token, token_at, slot_at}
use Rattle.model.specs.Machine.Update.{put}
use Rattle.model.specs.declared.record.Machine.{Machine}
use Rattle.record.specs.Layout.{row_of}
use Rattle.record.specs.Holds.{Holds}
use Rattle.record.proofs.LayoutParts.{row-wide}
use Rattle.record.proofs.TokenRow.{token-word, row_put}
use Rattle.record.proofs.CountLaws.{words_long}

module _ {ws : List ℕ} {m : Machine} (h : Holds ws m) where
  pub copied : (from place n : ℕ) (w : List ℕ) → from < 64 → place < 64 → n ≡ 24
      → w ≡ paste ws (24 * place) (drop (24 * from) ws) n → Holds w (put place (token_at m.tokens from) m)
  copied from place n w f l e g =
      let t = token_at m.tokens from in
      let same : take 24 (drop (24 * from) ws) ≡ take 24 (row_of t) =
      part-is ws (24 * from) 24 (row_of t) 0 (row-wide t) (omega (arith, words_long h.codes)) (token-word h.codes from f)
      ∙ sym (take_all 24 (row_of t) (omega (arith, row-wide t))) in
      subst (λ r. Holds r (put place t m))
      (sym (g ∙ ap (paste ws (24 * place) (drop (24 * from) ws)) e
      ∙ ap (λ x. (take (24 * place) ws ++ x) ++ drop (24 * place + 24) ws) same))
      (row_put h place l t (h.codes.shaped.binds from))

  pub blanked : (p k : ℕ) (row : List ℕ) → p < 64 → k ≡ 24 → row ≡ replicate (length (take k (drop (24 * p) ws))) 0
      → Holds (put_mid (24 * p) k ws row) (put p blank_token m)
  unfolding row_of slot_at
  blanked p k row l e f =
      let wide : length (take k (drop (24 * p) ws)) ≡ 24 =
      length-take-le k (drop (24 * p) ws) (omega (arith, words_long h.codes, length-drop (24 * p) ws)) ∙ e in
      subst (λ r. Holds r (put p blank_token m))
      (sym (put_mid-paste (24 * p) k ws row (row_of blank_token) 24 (f ∙ ap (λ n. replicate n 0) wide) (sym e) refl))
      (row_put h p l blank_token refl)
