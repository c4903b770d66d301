-- A name for all that a run computes with: under `unfolding computing` the definitions unfold, so that a run is its output by computation.
-- Assumes nothing.
unfoldable pub computing : Unit {0}
unfolding Rattle.job.specs.Construct.own Rattle.job.specs.Construct.node_count Rattle.job.specs.Construct.root
    Rattle.job.specs.Construct.own_nodes Rattle.job.specs.Construct.next_left Rattle.job.specs.Construct.next_right
    Rattle.job.specs.Construct.nodes_of Rattle.job.specs.Construct.construct_from Rattle.job.specs.Construct.construct
    Rattle.job.specs.Encode.encode_param Rattle.job.specs.Encode.encode_join Rattle.job.specs.Encode.encode_exp
    Rattle.job.specs.Encode.encode_definitions Rattle.job.specs.Encode.encode_entries Rattle.job.specs.Encode.operand_bytes
    Rattle.job.specs.Encode.encode Rattle.job.specs.Entry.entries Rattle.job.specs.Entry.kind_of Rattle.job.specs.Entry.is_expression
    Rattle.job.specs.Entry.row_holds Rattle.job.specs.Entry.is_binder Rattle.job.specs.Node.node_at Rattle.job.specs.Node.body_at
    Rattle.job.specs.Node.param_holds Rattle.job.specs.Node.params_hold Rattle.job.specs.Node.is_node Rattle.job.specs.Node.node_holds
    Rattle.job.specs.Node.body_holds Rattle.job.specs.Node.dag_holds Rattle.job.specs.Read.◌>>=◌ Rattle.job.specs.Read.need
    Rattle.job.specs.Read.entry_at Rattle.job.specs.Read.read_param Rattle.job.specs.Read.read_param_list Rattle.job.specs.Read.read_call
    Rattle.job.specs.Read.read_join Rattle.job.specs.Read.read_exp Rattle.job.specs.Read.is_definition Rattle.job.specs.Read.read_definition
    Rattle.job.specs.Read.read_program Rattle.job.specs.Read.leftovers Rattle.job.specs.Read.call_holds
    Rattle.job.specs.Read.definitions_hold
    Rattle.job.specs.Read.read_entries Rattle.job.specs.Read.read_sizes Rattle.job.specs.Read.read_bytes Rattle.job.specs.Read.reader_answer
    Rattle.job.specs.Read.read_table Rattle.job.specs.Syntax.levels Rattle.job.specs.Syntax.scope_left Rattle.job.specs.Syntax.scope_right
    Rattle.job.specs.Words.param_words Rattle.job.specs.Words.node_words Rattle.job.specs.Words.param_of Rattle.job.specs.Words.params_from
    Rattle.job.specs.Words.node_by Rattle.job.specs.Words.decoded_node Rattle.job.specs.Words.nodes_from Rattle.job.specs.Words.bodies_from
    Rattle.job.specs.Words.dag_of Rattle.job.specs.Words.rows_of_nodes Rattle.job.specs.Words.body_words Rattle.job.specs.Words.written
    Rattle.job.specs.Decimal.ascii Rattle.job.specs.Decimal.decimal_digits Rattle.job.specs.Decimal.decimal
    Rattle.job.specs.Decimal.signed_decimal Rattle.model.specs.Output.Line.line_of Rattle.model.specs.Output.Line.text_of
    Rattle.model.specs.Output.Line.text_of_all Rattle.model.specs.Output.Orcrun.reported_lines
    Rattle.model.specs.Output.Orcrun.step_turn Rattle.model.specs.Output.Orcrun.delivered
    Rattle.model.specs.Output.Orcrun.deliver_turn Rattle.model.specs.Output.Orcrun.last_turn
    Rattle.model.specs.Output.Orcrun.turn Rattle.model.specs.Output.Orcrun.turn_lines
    Rattle.model.specs.Output.Orcrun.run_lines Rattle.model.specs.Output.Orcrun.table_lines
    Rattle.model.specs.Output.Orcrun.input_lines Rattle.model.specs.Output.Orcrun.orcrun
    Rattle.model.specs.Machine.Active.cell_is_set Rattle.model.specs.Machine.Active.upward
    Rattle.model.specs.Machine.Active.under_set Rattle.model.specs.Machine.Active.within
    Rattle.model.specs.Machine.State.is_live Rattle.model.specs.Machine.Active.is_active
    Rattle.model.specs.Machine.Answer.holder Rattle.model.specs.Machine.Answer.answered
    Rattle.model.specs.Machine.Answer.answer Rattle.model.specs.Machine.Blank.token_at
    Rattle.model.specs.Machine.Blank.cell_at Rattle.model.specs.Machine.Blank.slot_at
    Rattle.model.specs.Machine.Blank.is_bound Rattle.model.specs.Machine.Blank.has_value
    Rattle.model.specs.Machine.Blank.is_place Rattle.model.specs.Machine.State.is_blank_state
    Rattle.model.specs.Machine.Blank.token_is_blank Rattle.model.specs.Machine.Blank.cell_is_blank
    Rattle.model.specs.Machine.InUse.mark_chain Rattle.model.specs.Machine.InUse.mark_from_each
    Rattle.model.specs.Machine.InUse.reached Rattle.model.specs.Machine.InUse.active_places
    Rattle.model.specs.Machine.InUse.bound_cell Rattle.model.specs.Machine.InUse.cells_of
    Rattle.model.specs.Machine.InUse.cells_of_marked Rattle.model.specs.Machine.InUse.used_tokens
    Rattle.model.specs.Machine.InUse.used_cells Rattle.model.specs.Machine.InUse.marked
    Rattle.model.specs.Machine.InUse.rest_blanked Rattle.model.specs.Machine.InUse.sweep
    Rattle.model.specs.Machine.FreePlace.around Rattle.model.specs.Machine.FreePlace.free_from
    Rattle.model.specs.Machine.FreePlace.next_place Rattle.model.specs.Machine.Reply.accepted
    Rattle.model.specs.Machine.Reply.outcome Rattle.model.specs.Machine.Reply.unless
    Rattle.model.specs.Machine.Reply.number_of Rattle.model.specs.Machine.Reply.is_refused
    Rattle.model.specs.Machine.Rules.held_in_range Rattle.model.specs.Machine.Rules.place_in_range
    Rattle.model.specs.Machine.Rules.slot_in_range Rattle.model.specs.Machine.Rules.state_in_range
    Rattle.model.specs.Machine.Rules.token_in_range Rattle.model.specs.Machine.Rules.cell_in_range
    Rattle.model.specs.Machine.Rules.sizes_in_range Rattle.model.specs.Machine.State.is_ready
    Rattle.model.specs.Machine.State.is_waiting Rattle.model.specs.Machine.State.is_frame
    Rattle.model.specs.Machine.State.is_due Rattle.model.specs.Machine.State.due_time_of
    Rattle.model.specs.Machine.State.is_due_by Rattle.model.specs.Machine.Rules.names_once
    Rattle.model.specs.Machine.Rules.chain_ends Rattle.model.specs.Machine.Rules.chains_end
    Rattle.model.specs.Machine.Rules.not_under_set Rattle.model.specs.Machine.State.handle_of
    Rattle.model.specs.Machine.Rules.open_handles Rattle.model.specs.Machine.Rules.waits_at_unset
    Rattle.model.specs.Machine.Rules.names_frame Rattle.model.specs.Machine.Rules.not_empty
    Rattle.model.specs.Machine.Rules.value_if_ready Rattle.model.specs.Machine.Rules.node_rule
    Rattle.model.specs.Machine.Rules.at_node Rattle.model.specs.Machine.Rules.rest_is_blank
    Rattle.model.specs.Machine.Rules.due_in_range Rattle.model.specs.Machine.Rules.clock_holds
    Rattle.model.specs.Machine.Rules.machine_holds Rattle.model.specs.Machine.Rules.rules_hold
    Rattle.model.specs.Machine.Start.start Rattle.model.specs.Machine.Update.with_node
    Rattle.model.specs.Machine.Update.with_binding Rattle.model.specs.Machine.Update.with_value
    Rattle.model.specs.Machine.Update.in_cell Rattle.model.specs.Machine.Update.with_state
    Rattle.model.specs.Machine.Update.with_tables Rattle.model.specs.Machine.Update.with_orders
    Rattle.model.specs.Machine.Update.with_counts Rattle.model.specs.Machine.Update.with_timers
    Rattle.model.specs.Machine.Update.with_clock Rattle.model.specs.Machine.Update.queue_of
    Rattle.model.specs.Machine.Update.waits_of Rattle.model.specs.Machine.Update.timers_of
    Rattle.model.specs.Machine.Update.put Rattle.model.specs.Machine.Update.enqueue
    Rattle.model.specs.Machine.Update.new_token Rattle.model.specs.Machine.Update.new_cell
    Rattle.model.specs.Machine.Step.and_then Rattle.model.specs.Machine.Step.look Rattle.model.specs.Machine.Step.passed
    Rattle.model.specs.Machine.Step.formals_bound Rattle.model.specs.Machine.Step.value_of
    Rattle.model.specs.Machine.State.waits_at Rattle.model.specs.Machine.Step.choke_token
    Rattle.model.specs.Machine.Step.after_choke Rattle.model.specs.Machine.Step.ended
    Rattle.model.specs.Machine.Step.goes_on Rattle.model.specs.Machine.Step.forked Rattle.model.specs.Machine.Step.split
    Rattle.model.specs.Machine.Step.entered Rattle.model.specs.Machine.Step.becomes_callee
    Rattle.model.specs.Machine.Step.call_body Rattle.job.specs.Tail.is_tail_within Rattle.job.specs.Tail.is_tail
    Rattle.model.specs.Machine.Step.waited
    Rattle.model.specs.Machine.Step.deferred Rattle.model.specs.Machine.Step.replied
    Rattle.model.specs.Machine.Step.called_out Rattle.model.specs.Machine.Step.returned
    Rattle.model.specs.Machine.Step.choke_at Rattle.model.specs.Machine.Step.call_site
    Rattle.model.specs.Machine.Step.has_token_place Rattle.model.specs.Machine.Step.has_cell_place
    Rattle.model.specs.Machine.Step.act Rattle.model.specs.Machine.Step.takes Rattle.model.specs.Machine.Step.step
    Rattle.model.specs.Machine.Clock.woken_by Rattle.model.specs.Machine.Clock.insert_by_time
    Rattle.model.specs.Machine.Clock.sort_by_time Rattle.model.specs.Machine.Clock.place_due_by
    Rattle.model.specs.Machine.Clock.joining Rattle.model.specs.Machine.Clock.staying
    Rattle.model.specs.Machine.Clock.after_advance Rattle.model.specs.Machine.Clock.takes_time
    Rattle.model.specs.Machine.Clock.advance Rattle.job.specs.Number.number Rattle.job.specs.Number.bytes
    Rattle.job.specs.Number.signed Rattle.job.specs.Number.unsigned Rattle.job.specs.Number.fits Rattle.job.specs.Number.equal_z
    Rattle.job.specs.Site.zero_if Rattle.job.specs.Site.not_zero Rattle.job.specs.Site.truth Rattle.job.specs.Site.sum_reply
    Rattle.job.specs.Site.due_time Rattle.job.specs.Site.is_builtin Rattle.job.specs.Site.is_outside Rattle.job.specs.Site.site_takes
    Rattle.job.specs.Site.builtin Rattle.job.specs.Test.◌and◌ Rattle.job.specs.Test.◌or◌ Rattle.job.specs.Test.for_all
    Rattle.job.specs.Test.for_some Rattle.job.specs.Test.all_from Rattle.job.specs.Test.select Rattle.job.specs.Test.occurrences
    Rattle.job.specs.Test.distinct Rattle.job.specs.Test.same Rattle.job.specs.Test.padded Rattle.job.specs.Test.without
computing = tt
