-- `inline::parse_event` meets its contract, by the laws of `Taking`.
use mathlib.Core.Path.{refl}
use native.Mathlib.Omega.{arith}
use Rattle.reading.specs.Machine.{rules_of}
use Rattle.rooms.specs.Standing.{viewed}
use Rattle.rooms.proofs.Changing.{stepped-still, stepped-from, changed-stepped}
use Rattle.inline.proofs.Taking.{event-none, event-within, event-fits, event-room, event-ready, event-ended, event-opened, event-outside, event-verbatim, event-text}
use Rattle.inline.proofs.parse_event.Goals as goal

pub returns-in_default : goal.returns-in_default
returns-in_default c =
    let a = c.args in
    stepped-still a.p.now _ c.requires.labels (event-none a.text.now a.reading (viewed a.v.now) a.p.now c.requires _ c.next_token-lexed.ensures c.in_default.is)

pub overflow_add-h : goal.overflow_add-h
overflow_add-h c =
    let a = c.args in
    omega (arith, event-within a.text.now a.reading (viewed a.v.now) a.p.now c.requires _ c.next_token-lexed.ensures _ c.in-Some.is (omega arith), c.requires.small)

pub in_verbatim-requires-clause-fits : goal.in_verbatim-requires-clause-fits
in_verbatim-requires-clause-fits c =
    let a = c.args in
    event-fits a.text.now a.reading (viewed a.v.now) a.p.now c.requires _ c.next_token-lexed.ensures _ c.in-Some.is _

pub in_verbatim-requires-clause-opened : goal.in_verbatim-requires-clause-opened
in_verbatim-requires-clause-opened c =
    let a = c.args in
    event-opened a.text.now a.reading (viewed a.v.now) a.p.now c.requires _ c.next_token-lexed.ensures _ c.in-Some.is (omega arith)
    _ c.in-Some-inside.is _ refl refl

pub in_verbatim-requires-clause-room : goal.in_verbatim-requires-clause-room
in_verbatim-requires-clause-room c =
    let a = c.args in
    event-room a.text.now a.reading (viewed a.v.now) a.p.now c.requires _ c.next_token-lexed.ensures _ c.in-Some.is (omega arith)

pub put-requires-clause-fits : goal.put-requires-clause-fits
put-requires-clause-fits c =
    let a = c.args in
    event-fits a.text.now a.reading (viewed a.v.now) a.p.now c.requires _ c.next_token-lexed.ensures _ c.in-Some.is _

pub put-requires-clause-room : goal.put-requires-clause-room
put-requires-clause-room c =
    let a = c.args in
    event-room a.text.now a.reading (viewed a.v.now) a.p.now c.requires _ c.next_token-lexed.ensures _ c.in-Some.is (omega arith)

pub outside-requires : goal.outside-requires
outside-requires c =
    let a = c.args in
    record {
      ready = event-ready a.text.now a.reading (viewed a.v.now) a.p.now c.requires _ c.next_token-lexed.ensures _ c.in-Some.is _
          _ refl refl refl refl refl;
      label_room = record { labels = c.requires.labels; room = c.requires.label_room; links = c.requires.links };
      countable = c.requires.looks;
      ended = event-ended a.text.now a.reading (viewed a.v.now) a.p.now c.requires _ c.next_token-lexed.ensures _ c.in-Some.is (omega arith)
          c.in-None.is _ refl refl refl;
    }

pub returns-in-Some-inside : goal.returns-in-Some-inside
returns-in-Some-inside c =
    let a = c.args in
    stepped-from a.p.now _ _ _ _ (changed-stepped _ _ _ c.in_verbatim.ensures.changed c.requires.labels) refl refl refl
    (event-verbatim a.text.now a.reading (viewed a.v.now) a.p.now c.requires _ c.next_token-lexed.ensures _ c.in-Some.is (omega arith) _ c.in-Some-inside.is)

pub returns-in-Text : goal.returns-in-Text
returns-in-Text c =
    let a = c.args in
    stepped-from a.p.now _ _ _ _ (changed-stepped _ _ _ c.put.ensures.queued.changed c.requires.labels) refl refl refl
    (event-text a.text.now a.reading (viewed a.v.now) a.p.now c.requires _ c.next_token-lexed.ensures _ c.in-Some.is (omega arith) c.in-None.is c.in-Text.is)

pub returns-in_default-kind : goal.returns-in_default-kind
returns-in_default-kind c =
    let a = c.args in
    stepped-from a.p.now _ _ _ _ (c.outside.ensures (rules_of a.reading)) refl refl refl
    (event-outside a.text.now a.reading (viewed a.v.now) a.p.now c.requires _ c.next_token-lexed.ensures _ c.in-Some.is (omega arith) c.in-None.is c.in_default-kind.not-Text _ c.role_of.ensures)
