-- The words of the kinds of nodes: a word has the kind whose word it is, and words past the last have none. Assumes nothing.
use mathlib.Core.Path.{◌≡◌, refl, ap}
use Prim.Native.Nat.{ℕ, zero, suc, ◌+◌, ◌≤◌}
use native.Mathlib.Omega.{arith}
use Rattle.std.proofs.Common.{Some, None}
use Rattle.job.specs.declared.dag.NodeKind.{NodeKind}
use Rattle.job.specs.declared.dag.NodeKind.TheVariants as kinds
use Rattle.job.specs.DagKinds.{word_of_kind, kind_of}

pub kind-known : (k : ℕ) (n : NodeKind) → kind_of k ≡ Some n → word_of_kind n ≡ k
unfolding word_of_kind
kind-known zero n e = let f : n ≡ kinds.Stop = cc in ap word_of_kind f
kind-known (suc zero) n e = let f : n ≡ kinds.Site = cc in ap word_of_kind f
kind-known (suc (suc zero)) n e = let f : n ≡ kinds.Call = cc in ap word_of_kind f
kind-known (suc (suc (suc zero))) n e = let f : n ≡ kinds.Fork = cc in ap word_of_kind f
kind-known (suc (suc (suc (suc zero)))) n e = let f : n ≡ kinds.Assign = cc in ap word_of_kind f
kind-known (suc (suc (suc (suc (suc zero))))) n e = let f : n ≡ kinds.Remove = cc in ap word_of_kind f
kind-known (suc (suc (suc (suc (suc (suc zero)))))) n e = let f : n ≡ kinds.Where = cc in ap word_of_kind f
kind-known (suc (suc (suc (suc (suc (suc (suc zero))))))) n e = let f : n ≡ kinds.Choke = cc in ap word_of_kind f
kind-known (suc (suc (suc (suc (suc (suc (suc (suc zero)))))))) n e = let f : n ≡ kinds.Return = cc in ap word_of_kind f
kind-known (suc (suc (suc (suc (suc (suc (suc (suc (suc zero))))))))) n e = let f : n ≡ kinds.Publish = cc in ap word_of_kind f
kind-known (suc (suc (suc (suc (suc (suc (suc (suc (suc (suc k)))))))))) n e = cc

pub no-kind : (k : ℕ) → kind_of k ≡ None → 10 ≤ k
no-kind zero e = cc
no-kind (suc zero) e = cc
no-kind (suc (suc zero)) e = cc
no-kind (suc (suc (suc zero))) e = cc
no-kind (suc (suc (suc (suc zero)))) e = cc
no-kind (suc (suc (suc (suc (suc zero))))) e = cc
no-kind (suc (suc (suc (suc (suc (suc zero)))))) e = cc
no-kind (suc (suc (suc (suc (suc (suc (suc zero))))))) e = cc
no-kind (suc (suc (suc (suc (suc (suc (suc (suc zero)))))))) e = cc
no-kind (suc (suc (suc (suc (suc (suc (suc (suc (suc zero))))))))) e = cc
no-kind (suc (suc (suc (suc (suc (suc (suc (suc (suc (suc k)))))))))) e = omega arith
