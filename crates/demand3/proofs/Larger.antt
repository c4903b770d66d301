-- Larger limits change nothing that was accepted: an accepted step under some limits is the same step under limits neither of which is
-- smaller. So a step adds at most one token and one cell to those in use, and an answer or a clock move none. Assumes nothing.
use mathlib.Core.Path.{◌≡◌, refl, sym, ◌∙◌, ap, subst}
use mathlib.Core.Bool.{Bool, true, false}
use mathlib.Core.List.{List}
use Prim.Native.Nat.{ℕ, suc, ◌+◌, ◌≤◌}
use native.Mathlib.Omega.{arith}
use lib.Dec.{ltb}
use lib.IntN.{ℤ}
use Rattle.job.specs.Syntax.{Param}
use Rattle.job.specs.Node.{Node, Dag}
use Rattle.job.specs.Tail.{is_tail}
use Rattle.model.specs.Machine.Limits.{Limits}
use Rattle.model.specs.Machine.InUse.{marked, tokens_used, cells_used, Within}
use Rattle.model.specs.Machine.Rules.{token_in_range, cell_in_range, sizes_in_range, machine_holds, rules_hold}
use Rattle.model.specs.Machine.Reply.{Effect, moves, unless, outcome, is_refused}
use Rattle.model.specs.Machine.Step.{LookUpResult, values, unset, call_site, call_body, has_token_place, has_cell_place, act, takes, step}
use Rattle.model.specs.Machine.Answer.{holder, answered, answer}
use Rattle.model.specs.Machine.Clock.{takes_time, after_advance, advance}
use Rattle.model.specs.declared.token.Token.{Token}
use Rattle.model.specs.declared.record.Machine.{Machine}
use Rattle.model.specs.declared.reply.Outcome.{Outcome}
use Rattle.job.proofs.Test.{clash, ltb-lt, lt-ltb}
use Rattle.model.proofs.Machine.Added.{cells_added, node_taken}
use Rattle.model.proofs.Machine.Within.{step-within, answer-within, advance-within}

-- these limits, for as many tokens and cells
abbrev pub allowing : Limits → (tokens cells : ℕ) → Limits
allowing lim t c =
    record { token_places = lim.token_places; cell_places = lim.cell_places; tokens = t; cells = c; calls = lim.calls }

-- the rules do not speak of these limits, and an answer and a clock move do not test them
same-rules : (lim : Limits) (t c : ℕ) (d : Dag) (m : Machine) → rules_hold (allowing lim t c) d m ≡ rules_hold lim d m
unfolding rules_hold machine_holds token_in_range cell_in_range sizes_in_range
same-rules lim t c d m = refl

same_answer : (lim : Limits) (t c : ℕ) (d : Dag) (m : Machine) (h : ℕ) (v : ℤ) → answer (allowing lim t c) d m h v ≡ answer lim d m h v
unfolding answer
same_answer lim t c d m h v =
    ap (λ b. outcome m (unless b 14 (answered m v (holder h 0 m.tokens)))) (same-rules lim t c d m)

same-advance : (lim : Limits) (t c : ℕ) (d : Dag) (m : Machine) (time : ℕ) → advance (allowing lim t c) d m time ≡ advance lim d m time
unfolding advance
same-advance lim t c d m time =
    ap (λ b. outcome m (unless b 14 (unless (takes_time m time) 15 (moves (after_advance m time))))) (same-rules lim t c d m)

-- a call that the test did not refuse is the same under a test that holds as well
unless-same : (m : Machine) (b b' : Bool) (n : ℕ) (e e' : Effect)
    → (b ≡ true → b' ≡ true) → (is_refused (outcome m e).reply ≡ false → e' ≡ e)
    → is_refused (outcome m (unless b n e)).reply ≡ false → unless b' n e' ≡ unless b n e
unfolding unless outcome is_refused
unless-same m true b' n e e' f g ok = rw (f refl) (g ok)
unless-same m false b' n e e' f g ok = clash refl ok

-- limits that hold where these do; the one of cells is asked for only where a cell is added
module _ (lim : Limits) (t c : ℕ) (d : Dag) (m : Machine)
    (token-too : has_token_place lim m ≡ true → has_token_place (allowing lim t c) m ≡ true) where
  abbrev CellToo : Node → Type 0
  CellToo n = cells_added n ≡ 1 → has_cell_place lim m ≡ true → has_cell_place (allowing lim t c) m ≡ true

  same-site : (at : Machine) (p : ℕ) (u : Token) (s k : ℕ) (l : LookUpResult)
      → call_site (allowing lim t c) at p u s k l ≡ call_site lim at p u s k l
  unfolding call_site
  same-site at p u s k (values vs) = refl
  same-site at p u s k (unset b) = refl

  same_body : (at : Machine) (p : ℕ) (u : Token) (root : ℕ) (ps : List Param) (k : ℕ) (tail : Bool)
      → is_refused (outcome m (call_body lim m at p u root ps k tail)).reply ≡ false
      → call_body (allowing lim t c) m at p u root ps k tail ≡ call_body lim m at p u root ps k tail
  unfolding call_body
  same_body at p u root ps k true ok = refl
  same_body at p u root ps k false ok = unless-same m _ _ _ _ _ token-too (λ x. refl) ok

  same-act : (at : Machine) (p : ℕ) (u : Token) (n : Node) → CellToo n → is_refused (outcome m (act lim d m at p u n)).reply ≡ false
      → act (allowing lim t c) d m at p u n ≡ act lim d m at p u n
  unfolding act cells_added
  same-act at p u Node.stop too ok = refl
  same-act at p u Node.publish too ok = refl
  same-act at p u (Node.fork l r) too ok = unless-same m _ _ _ _ _ token-too (λ x. refl) ok
  same-act at p u (Node.assign x k) too ok = refl
  same-act at p u (Node.remove x k) too ok = refl
  same-act at p u (Node.where' x l r) too ok =
      unless-same m _ _ _ _ _ token-too (unless-same m _ _ _ _ _ (too refl) (λ x. refl)) ok
  same-act at p u (Node.site s ps k) too ok = same-site at p u s k _
  same-act at p u (Node.call e ps k) too ok = same_body at p u _ ps k (is_tail d k) ok
  same-act at p u Node.return too ok = refl
  same-act at p u Node.choke too ok = refl
  same-act at p u Node.unknown too ok = refl

  same_takes : (place : ℕ) → CellToo (node_taken d m place) → is_refused (outcome m (takes lim d m place)).reply ≡ false
      → takes (allowing lim t c) d m place ≡ takes lim d m place
  unfolding takes
  same_takes place too ok = same-act _ _ _ _ too ok

  same_step : (place : ℕ) → CellToo (node_taken d m place) → is_refused (step lim d m place).reply ≡ false
      → step (allowing lim t c) d m place ≡ step lim d m place
  unfolding step
  same_step place too ok =
      ap (outcome m)
      (unless-same m _ _ _ _ _ (λ e. same-rules lim t c d m ∙ e) (unless-same m _ _ _ _ _ (λ e. e) (same_takes place too)) ok)

below_more : (n a b : ℕ) → a ≤ b → ltb n a ≡ true → ltb n b ≡ true
below_more n a b l e = lt-ltb n b (let z = ltb-lt n a e in omega arith)

pub step-larger : (lim : Limits) (t c : ℕ) → lim.tokens ≤ t → lim.cells ≤ c → (d : Dag) (m : Machine) (place : ℕ)
    → is_refused (step lim d m place).reply ≡ false → step (allowing lim t c) d m place ≡ step lim d m place
unfolding has_token_place has_cell_place
step-larger lim t c l k d m place ok =
    same_step lim t c d m (below_more (marked (tokens_used m)) lim.tokens t l) place
    (λ w. below_more (marked (cells_used m)) lim.cells c k) ok

-- the tokens and the cells in use
abbrev pub UsedAtMost : Machine → (tokens cells : ℕ) → Type 0
UsedAtMost m t c = (marked (tokens_used m) ≤ t) × (marked (cells_used m) ≤ c)

module _ (lim : Limits) (d : Dag) (m : Machine) where
  -- a step adds one token at most, and one cell at most where its token stands at a where
  pub step-adds : (place : ℕ) → is_refused (step lim d m place).reply ≡ false
      → UsedAtMost (step lim d m place).machine (suc (marked (tokens_used m))) (cells_added (node_taken d m place) + marked (cells_used m))
  unfolding has_token_place has_cell_place
  step-adds place ok =
      let t = marked (tokens_used m) in
      let c = cells_added (node_taken d m place) + marked (cells_used m) in
      let same = same_step lim (suc t) c d m (λ e. lt-ltb t (suc t) (omega arith)) place
      (λ w e. lt-ltb (marked (cells_used m)) c (omega arith)) ok in
      subst (λ (o : Outcome). UsedAtMost o.machine (suc t) c) same
      (step-within (allowing lim (suc t) c) d m place (omega arith, omega arith)
      (subst (λ (o : Outcome). is_refused o.reply ≡ false) (sym same) ok))

  -- a call that does not test the limits, and leaves within them what is within them
  adds_none : (call : Limits → Outcome) → ((t c : ℕ) → call (allowing lim t c) ≡ call lim)
      → ((at : Limits) → Within at m → is_refused (call at).reply ≡ false → Within at (call at).machine)
      → is_refused (call lim).reply ≡ false → UsedAtMost (call lim).machine (marked (tokens_used m)) (marked (cells_used m))
  adds_none call same within ok =
      let t = marked (tokens_used m) in
      let c = marked (cells_used m) in
      subst (λ (o : Outcome). UsedAtMost o.machine t c) (same t c)
      (within (allowing lim t c) (omega arith, omega arith)
      (subst (λ (o : Outcome). is_refused o.reply ≡ false) (sym (same t c)) ok))

  pub answer-adds : (h : ℕ) (v : ℤ) → is_refused (answer lim d m h v).reply ≡ false
      → UsedAtMost (answer lim d m h v).machine (marked (tokens_used m)) (marked (cells_used m))
  answer-adds h v ok = adds_none (λ at. answer at d m h v) (λ t c. same_answer lim t c d m h v) (λ at. answer-within at d m h v) ok

  pub advance-adds : (time : ℕ) → is_refused (advance lim d m time).reply ≡ false
      → UsedAtMost (advance lim d m time).machine (marked (tokens_used m)) (marked (cells_used m))
  advance-adds time ok = adds_none (λ at. advance at d m time) (λ t c. same-advance lim t c d m time) (λ at. advance-within at d m time) ok
