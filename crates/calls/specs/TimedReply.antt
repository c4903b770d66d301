-- A built-in's reply at a time. Assumes nothing: these are definitions.
use Rattle.std.specs.Prelude.{true, false, ℕ, ltb, pos}
use Rattle.std.proofs.Math.Option.{Option, some, none}
use Rattle.job.specs.Site.{BuiltinReply, gives, silent, later, due_time}
use Rattle.calls.specs.declared.rwait.TimedReply.{TimedReply}
use Rattle.calls.specs.declared.rwait.TimedReply.TheVariants as settleds

-- a call that falls due at a time, or never: now, later, or silent
abbrev pub settled_due : (now : ℕ) → Option ℕ → TimedReply
settled_due now none = settleds.Silent
settled_due now (some due) = elim (ltb now due) [ true ↦ settleds.Due due | false ↦ settleds.Gives (pos 0) ]

abbrev pub settled_at : (now : ℕ) → BuiltinReply → TimedReply
settled_at now (gives v) = settleds.Gives v
settled_at now silent = settleds.Silent
settled_at now (later t) = settled_due now (due_time now t)
