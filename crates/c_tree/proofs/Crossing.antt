-- Programs, patches, settings and places may move between threads.
use denote.Param.Send.{IsSend, sendable}
use denote.Param.SendFields.{declared_send, as_row_send}
use Rattle.std.proofs.option.Option.TheSendSync as option
use Rattle.sqlite_items.proofs.boxed.Boxed.TheSendSync as boxed
use Rattle.sqlite_items.proofs.items.Items.TheSendSync as items
use Rattle.c_tree.specs.contracts.lifted.Dest as Dest
use Rattle.c_tree.specs.contracts.lifted.LExpr as LExpr
use Rattle.c_tree.specs.contracts.lifted.LStmt as LStmt
use Rattle.c_tree.specs.contracts.lifted.LFunction as LFunction
use Rattle.c_tree.specs.contracts.lifted.Lifted as Lifted
use Rattle.c_tree.specs.contracts.lifted.Slot as Slot
use Rattle.c_tree.specs.contracts.lifted.LStruct as LStruct
use Rattle.c_tree.specs.contracts.lifted.LGlobal as LGlobal
use Rattle.c_tree.specs.contracts.mapping.LFill as LFill
use Rattle.c_tree.specs.contracts.mapping.LPart as LPart
use Rattle.c_tree.specs.contracts.mapping.LEntry as LEntry
use Rattle.c_tree.specs.contracts.mapping.Patch as Patch
use Rattle.c_tree.specs.contracts.run.Armed as Armed
use Rattle.c_tree.specs.contracts.run.Settings as Settings
use Rattle.c_tree.specs.contracts.text.Text as Text
use Rattle.c_tree.specs.contracts.place.Act as Act
use Rattle.c_tree.specs.contracts.place.Place as Place
use Rattle.c_tree.specs.contracts.place.Places as Places
use Rattle.c_tree.proofs.place.Follow.TheSendSync as follow
use Rattle.c_tree.proofs.lifted.LExpr.TheLaws.TheKnot.{send-LExpr}
use Rattle.c_tree.proofs.lifted.LStmt.TheLaws.TheKnot.{send-LStmt}
use Rattle.c_tree.proofs.lifted.Slot.TheSendSync as slot
use Rattle.c_tree.proofs.lifted.LStruct.TheSendSync as struct
use Rattle.c_tree.proofs.lifted.LGlobal.TheSendSync as global
use Rattle.c_tree.proofs.op.UnOp.TheSendSync as un
use Rattle.c_tree.proofs.op.BinOp.TheSendSync as bin
use Rattle.c_tree.proofs.row.Row.TheSendSync as row
use Rattle.c_tree.proofs.text.Text.TheSendSync as text
use Rattle.c_tree.proofs.ty.Ty.TheSendSync as ty

expr_field : IsSend (LExpr.the_field).row
expr_field = send-LExpr (search sendable) (search sendable) (λ h s. boxed.the_send h s) un.the_field_send bin.the_field_send

pub expr_send : IsSend LExpr.the_row
expr_send = as_row_send LExpr.the_field expr_field

dest_field : IsSend (Dest.the_field).row
dest_field = search (expr_field, sendable) depth 20

stmt_field : IsSend (LStmt.the_field).row
stmt_field = send-LStmt dest_field expr_field (search sendable) text.the_send (row.the_send LExpr.the_row expr_send) (search sendable depth 20) (option.the_field_send LExpr.the_row expr_send) (λ h s. items.the_send h s)

pub stmt_send : IsSend LStmt.the_row
stmt_send = as_row_send LStmt.the_field stmt_field

pub function_send : IsSend LFunction.the_row
function_send = declared_send LFunction.the_type (text.the_send, (ty.the_send, (search sendable, (row.the_send Slot.the_row slot.the_send, (row.the_send LStmt.the_row stmt_send, tt)))))

pub lifted_send : IsSend Lifted.the_row
lifted_send = declared_send Lifted.the_type (row.the_send LStruct.the_row struct.the_send, (row.the_send LGlobal.the_row global.the_send, (row.the_send Text.the_row text.the_send, (row.the_send LFunction.the_row function_send, (search sendable, tt)))))

fill_send : IsSend LFill.the_row
fill_send = declared_send LFill.the_type (search sendable, (expr_send, tt))

part_send : IsSend LPart.the_row
part_send = declared_send LPart.the_type (search sendable, (search sendable, (row.the_send LFill.the_row fill_send, tt)))

entry_field : IsSend (LEntry.the_field).row
entry_field = search (expr_field, row.the_send LPart.the_row part_send, sendable) depth 20

pub patch_send : IsSend Patch.the_row
patch_send = declared_send Patch.the_type (text.the_send, (lifted_send, (text.the_send, (lifted_send, (row.the_send LEntry.the_row (as_row_send LEntry.the_field entry_field), tt)))))

pub armed_send : IsSend Armed.the_row
armed_send = declared_send Armed.the_type (patch_send, (search sendable, tt))

pub settings_send : IsSend Settings.the_row
settings_send = declared_send Settings.the_type (lifted_send, (option.the_send Armed.the_row armed_send, (text.the_send, (search sendable, tt))))

act_field : IsSend (Act.the_field).row
act_field = search (expr_field, stmt_field, sendable) depth 20

place_send : IsSend Place.the_row
place_send = declared_send Place.the_type (as_row_send Act.the_field act_field, (follow.the_send, tt))

pub places_send : IsSend Places.the_row
places_send = declared_send Places.the_type (row.the_send _ (row.the_send Place.the_row place_send), tt)
