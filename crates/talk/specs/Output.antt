-- The memory of 4,096 bytes that bench lends for what a line puts out (01, "Bench program and proved table": "outputs joined"): it holds
-- what any line puts out, so that no call of a line is refused for it. Proved in `proofs/Output.antt`.
use Rattle.std.specs.Prelude.{ℕ, ◌≤◌, ◌≡◌, List, [], ◌∷◌, length, drop, Some}
use Rattle.link.specs.History.{Call, called}
use Rattle.link.specs.declared.Link.{Link}
use Rattle.script.specs.Lines.{Order, LineIs}
use Rattle.talk.specs.Answer.{Done}
use Rattle.talk.specs.Lines.{Makes}
use Rattle.talk.specs.Listing.{talked, silence}

-- calls made one after the other, as `made_on` has them: each is lent 257 bytes or more (refusal 1: "output buffer under 257 bytes")
unfoldable pub EachLent : Link → List ℕ → List ℕ → List Call → Type 0
EachLent u room out [] = Unit {0}
EachLent u room out (k ∷ ks) =
    (257 ≤ length out)
    × EachLent (called u room out k).answer.link (called u room out k).room (drop (called u room out k).answer.count out) ks

abbrev pub LentIn : Link → Done → List Call → Type 0
LentIn u d ks = EachLent u d.room d.out ks

-- behind any lines, once a start was not refused: the calls of any line
abbrev pub OutputHolds : Type 0
OutputHolds =
    (lines : List (List ℕ)) (u : Link) → (talked silence lines).now.shown.bench ≡ Some u
    → (line : List ℕ) (o : Order) (ks : List Call) → LineIs line o → length line ≤ 1024 → Makes o ks → LentIn u (talked silence lines).now ks
