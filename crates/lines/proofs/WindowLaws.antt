-- What a window shows after one call and another. Assumes nothing.
use mathlib.Core.Path.{◌≡◌, refl, ◌∙◌, subst}
use mathlib.Core.List.{List, [], ◌++◌}
use Prim.Native.Nat.{ℕ}
use Rattle.lines.specs.WindowShows.{ShowsMore}
use Rattle.lines.specs.declared.shown.Window.{Window}
use Rattle.lines.proofs.ShownBytes.{shows-none, shows_then}

pub window-none : (w : Window) → ShowsMore w w []
window-none w = record { same_reference = refl; from = refl; shows_bytes = shows-none _ _ _ }

pub window-as : {a b : Window} {xs ys : List ℕ} → xs ≡ ys → ShowsMore a b xs → ShowsMore a b ys
window-as {a} {b} e s = subst (ShowsMore a b) e s

pub window-then : {a b c : Window} {xs ys : List ℕ} → ShowsMore a b xs → ShowsMore b c ys → ShowsMore a c (xs ++ ys)
window-then f s =
    record {
      same_reference = s.same_reference ∙ f.same_reference;
      from = s.from ∙ f.from;
      shows_bytes = shows_then f.shows_bytes (rw f.from at s.shows_bytes);
    }
