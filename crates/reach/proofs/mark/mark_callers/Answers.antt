-- `mark::mark_callers` meets its contract: the links are those of the table's rows. Assumes nothing.
use mathlib.Core.List.{map}
use mathlib.Core.Path.{◌≡◌, sym, ap, ◌∙◌}
use borrow.Author.Rules.{rules}
use lib.ListN.{get_or-map}
use Rattle.model.specs.Machine.Blank.{blank_token, token_at}
use Rattle.model.specs.Machine.InUse.{mark_chain}
use Rattle.model.specs.Machine.Held.{Place}
use Rattle.model.specs.declared.token.Token.{Token}
use Rattle.record.specs.Layout.{place_number}
use Rattle.record.specs.LayoutDecoded.{place_from}
use Rattle.reach.proofs.MarkChain.{walk-linked}
use Rattle.reach.proofs.mark.mark_callers.Goals as goal

pub returns : goal.returns
unfolding token_at
returns c = λ m h.
    let link = λ (t : Token). t.caller in
    let q = place_from c.args.start in
    let marks = c.args.marks.now in
    c.mark_chain.ensures (map link m.tokens) (link blank_token)
    (λ p r k e.
    let here : r ≡ place_number (token_at m.tokens p).caller = search rules in
    here ∙ ap place_number (sym (get_or-map link m.tokens p blank_token)))
    ∙ ap (λ n. mark_chain (λ (q : Place). q) (link blank_token) (map link m.tokens) n q marks) c.requires
    ∙ walk-linked link blank_token m.tokens 64 q marks
