-- One name that opens every definition, for what is proved by computing it: a proof that says `unfolding computing` sees
-- through all of them, and `refl` then compares two values.
-- Assumes nothing.
use Rattle.numbers.specs.Signed.{between}
use Rattle.rules.specs.Outcome.{paper_number, number_of}
use Rattle.rules.specs.Value.{lowest, highest, in_type, differ, plus, minus, most_variables, zeros, padded, fit, plus_all, snapshot, put, minus_all, unchanged}
use Rattle.rules.specs.Tree.{gives, apply, node_of, depth_of, depth, insert, union, reads, mentions}
use Rattle.rules.specs.Table.{u16, signed, header_length, most_nodes, marked, variables, nodes, nodes_at, total, check_header, type_bytes, check_types, ty_of, types_of, read_node, constant_of, nodes_from, nodes_of, kinds, kind_of, is_type, as_expression, as_statement, unused, make, make_kind, make_all, root_of, children_by, children, uses, check_uses, most_depth, check}
use Rattle.rules.specs.Run.{compute, evaluate, entry, enter, holds, times, iterate, if_words, repeat_words, run, most_steps, record_of}
use Rattle.rules.specs.Patch.{read, read_in, moved, finished, cut, shift, steps_of, no_steps, both, one_walked, all_reused, all_fresh, ends, meet, skipped, paid, visit, read_snapshot, moved_all, kept, flipped, last_snapshot, complete, grown, shrunk, loop, walk}
use Rattle.rules.specs.Call.{within, answered, call_check, finish_run, call_run, length_of, limit_of, steps_in, inputs_of, outputs_of, header, is_change, legal, finish_patch, call_patch}

unfoldable pub computing : Unit {0}
unfolding between paper_number number_of lowest highest in_type differ plus minus most_variables zeros padded fit plus_all snapshot put minus_all unchanged gives apply node_of depth_of depth insert union reads mentions u16 signed header_length most_nodes marked variables nodes nodes_at total check_header type_bytes check_types ty_of types_of read_node constant_of nodes_from nodes_of kinds kind_of is_type as_expression as_statement unused make make_kind make_all root_of children_by children uses check_uses most_depth check compute evaluate entry enter holds times iterate if_words repeat_words run most_steps record_of read read_in moved finished cut shift steps_of no_steps both one_walked all_reused all_fresh ends meet skipped paid visit read_snapshot moved_all kept flipped last_snapshot complete grown shrunk loop walk within answered call_check finish_run call_run length_of limit_of steps_in inputs_of outputs_of header is_change legal finish_patch call_patch
computing = tt
