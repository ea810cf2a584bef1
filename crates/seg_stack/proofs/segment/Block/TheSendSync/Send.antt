-- A block may cross threads where its value and its allocator may.
use mir.Raw.{raw}
use denote.RattleType.{RattleType}
use denote.Memory.{lone}
use denote.Struct.Struct.{exits_of}
use denote.Struct.Owning.{shape, fields, to}
use denote.Param.Send.{IsSend, AllSend, Frees, owning_send, struct_send, sendable}
use Rattle.core.specs.declared.alloc.Allocator.{Ghosts}
use Rattle.std_alloc.proofs.SendSync.{quiet, lies}
use Rattle.seg_stack.specs.contracts.segment.Block.{the_row, the_type}

pub send : (T A : RattleType) (g : Ghosts A.Denot) → IsSend T → IsSend A → Frees g g.dealloc_token → IsSend (the_row T A g)
send T A g t a f =
    let O = the_type T A g in let all : AllSend (fields O) = (search sendable, (a, tt)) in
    owning_send O all (λ d. (lies T t d.at d.value, f.frees d.alloc (raw (lone T.mir)) d.at))
    (λ k. quiet (to O) (exits_of k (fields O)) ((struct_send (shape O) all).leaving k))
