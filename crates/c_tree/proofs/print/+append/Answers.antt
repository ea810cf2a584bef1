use Rattle.c_tree.specs.Printing.{reads}
use Rattle.c_tree.proofs.PrintLemmas.{elem_appended}
use Rattle.c_tree.proofs.print.+append.Goals as goal

pub append_expr-returns-in_ok-append_expr-in-Elem : goal.append_expr-returns-in_ok-append_expr-in-Elem
append_expr-returns-in_ok-append_expr-in-Elem t c =
    elem_appended c.extend_from_slice-in-Elem.result (reads c.args.names.now) c.in-Elem.global c.in-Elem.index c.get.result.now c.args.expr.now c.args.out.now.items c.append_array.new.out.items c.append_expr.new.out.items c.extend_from_slice-in-Elem.new.self.items
    c.in-Elem.is c.get.ensures c.in_ok-append_array-in-Elem.ensures c.in_ok-append_expr-in-Elem.ensures c.extend_from_slice-in-Elem.ensures.items
