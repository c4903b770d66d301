-- What a choke does to one token. By the tests that its definition makes. Assumes nothing.
use mathlib.Core.Path.{◌≡◌, refl, sym, ◌∙◌, ap}
use mathlib.Core.Bool.{Bool, true, false}
use mathlib.Core.List.{List, map}
use Prim.Native.Nat.{ℕ}
use lib.ListN.{get_or, get_or-map}
use Rattle.model.specs.Machine.Blank.{blank_token, token_at}
use Rattle.model.specs.Machine.Active.{within}
use Rattle.model.specs.Machine.State.{waits_at}
use Rattle.model.specs.Machine.Update.{with_state}
use Rattle.model.specs.Machine.Step.{choke_token}
use Rattle.model.specs.declared.token.State.TheVariants as states
use Rattle.model.specs.declared.token.Token.{Token}
use Rattle.model.specs.declared.cell.Cell.{Cell}
use Rattle.model.proofs.Machine.WrittenTokens.{choked-blank}

pub choke-at : (cs : List Cell) (c : ℕ) (ts : List Token) (r : ℕ) → token_at (map (choke_token cs c) ts) r ≡ choke_token cs c (token_at ts
    r)
unfolding token_at
choke-at cs c ts r = ap (get_or (map (choke_token cs c) ts) r) (sym (choked-blank cs c)) ∙ get_or-map (choke_token cs c) ts r blank_token

pub choke-ends : (cs : List Cell) (c : ℕ) (t : Token) → within cs c t.cell ≡ true → choke_token cs c t ≡ blank_token
unfolding choke_token
choke-ends cs c t e = rw (e, choke_token) refl

unfoldable pub woken : Bool → Token → Token
woken b t = elim b [ true ↦ with_state states.Ready t | false ↦ t ]

pub choke-spares : (cs : List Cell) (c : ℕ) (t : Token) → within cs c t.cell ≡ false → choke_token cs c t ≡ woken (waits_at c t.state) t
unfolding choke_token woken
choke-spares cs c t e = rw (e, choke_token) refl
