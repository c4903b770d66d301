-- Site calls: a built-in says the same to the first two of four values as to all of them, and what it said is read back. Assumes
-- nothing.
use mathlib.Core.Path.{◌≡◌, refl, ap, ap₂, ◌∙◌}
use mathlib.Core.List.{List, [], ◌∷◌, ◌++◌}
use Prim.Native.Nat.{ℕ, zero, suc, ◌-◌, ◌<◌}
use lib.ListN.{length, get_or, replicate}
use lib.IntN.{ℤ, pos}
use Rattle.job.specs.Test.{padded}
use Rattle.job.specs.Site.{BuiltinReply, gives, silent, later, at, builtin}
use Rattle.model.specs.Machine.Reply.{report_values}
use Rattle.sites.specs.declared.site.SiteReply.{SiteReply}
use Rattle.sites.specs.SiteReply.{site_reply_of, builtin_reply_of}
use Rattle.sites.proofs.SiteBuiltins.{says-to-two}

-- what a built-in says to the first two of four values
at-replicate : (n i : ℕ) → get_or (replicate n (pos 0)) i (pos 0) ≡ pos 0
at-replicate zero i = refl
at-replicate (suc n) zero = refl
at-replicate (suc n) (suc i) = at-replicate n i

at-append : (vs : List ℤ) (n i : ℕ) → at (vs ++ replicate n (pos 0)) i ≡ at vs i
at-append [] n i = at-replicate n i
at-append (v ∷ vs) n zero = refl
at-append (v ∷ vs) n (suc i) = at-append vs n i

pub says-to-front : (s : ℕ) (vs xs : List ℤ) → s < 8 → xs ≡ report_values vs → builtin s (at xs 0 ∷ at xs 1 ∷ []) ≡ builtin s vs
unfolding padded
says-to-front s vs xs l e = ap₂ (λ x y. builtin s (x ∷ y ∷ [])) (same 0) (same 1) ∙ says-to-two s vs l
  where
    same : (i : ℕ) → at xs i ≡ at vs i
    same i = ap (λ ys. at ys i) e ∙ at-append vs (4 - length vs) i

-- what a built-in said, there and back
pub reply-back : (x : SiteReply) (y : BuiltinReply) → x ≡ site_reply_of y → builtin_reply_of x ≡ y
reply-back x (gives v) e = ap builtin_reply_of e
reply-back x silent e = ap builtin_reply_of e
reply-back x (later t) e = ap builtin_reply_of e
