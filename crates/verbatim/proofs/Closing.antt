-- The end of a verbatim: its exit, what is kept of the queue, and a raw format; and a token inside it.
use Rattle.std.specs.Prelude.{Option, Some, None, true}
use Prim.Native.Nat.{ℕ, zero, suc, ◌+◌, ◌<◌}
use mathlib.Core.Path.{◌≡◌, refl, sym, ap, ◌∙◌}
use mathlib.Core.List.{List, [], ◌∷◌}
use mathlib.Core.Bool.{Bool}
use native.Mathlib.Omega.{arith}
use lib.ListN.{length, get_or}
use Rattle.lex.specs.declared.lex.Token.{Token}
use Rattle.reading.specs.declared.Event.{Event}
use Rattle.reading.specs.declared.Home.{Home}
use Rattle.reading.specs.declared.Verbatim.{Verbatim}
use Rattle.reading.specs.Events.{becomes, exit_of, enter, raw_format, str}
use Rattle.reading.specs.Machine.{View, Turn, amend, puts, put, with_inside}
use Rattle.reading.specs.Tokens.{role_of, is_run}
use Rattle.reading.specs.Verbatim.{nothing, content, ended_at}
use Rattle.rooms.specs.declared.Parser.{Parser}
use Rattle.rooms.specs.declared.span.Span.{Span}
use Rattle.rooms.specs.Records.{event_at}
use Rattle.rooms.specs.Standing.{here}
use Rattle.rooms.specs.Steps.{state, staying, amending, cutting, Queued}
use Rattle.rooms.proofs.Rows.{rows-length, rows_at, rows_cut}
use Rattle.rooms.proofs.Changing.{queued-as, queued-on}
use Rattle.verbatim.specs.Opened.{Opened, headed}

pub opened-low : (w : Verbatim) (p : Parser) → Opened w p → w.event < p.at.events
opened-low w p h = omega (arith, h.low, h.high)

-- the exit behind the first n events
pub exits-turn : (w : Verbatim) (p r t : Parser) → w.event < p.at.events → (n a b : ℕ) (e : Event) → e ≡ exit_of (event_at p.queue.now w.event) a b
    → Queued p r (staying p (cutting n)) → Queued r t (staying r (puts (e ∷ []) None))
    → record { cursor = t.at.cursor; state = with_inside None (state t) } ≡ staying p (headed w n a b) (state p)
exits-turn w p r t low n a b e ise c d =
    ap (λ (x : Turn). record { cursor = x.cursor; state = with_inside None x.state }) (queued-on p r t _ _ c d).changed.same
    ∙ rw (ise, rows_at event_at p.at.events p.queue.now w.event nothing low)

-- the event that was changed
amend-at : (f : Event → Event) (i : ℕ) (es : List Event) (d : Event) → i < length es → get_or (amend f i es) i d ≡ f (get_or es i d)
unfolding amend
amend-at f i [] d h = absurd (omega arith)
amend-at f zero (e ∷ es) d h = refl
amend-at f (suc i) (e ∷ es) d h = amend-at f i es d (omega arith)

-- a raw inline is open as a verbatim is
pub opened-raw : (w : Verbatim) (p r : Parser) (home : Home) → Opened w p → Queued p r (staying p (amending (becomes (enter raw_format) home) w.event))
    → r.at ≡ p.at → Opened w r
opened-raw w p r home h c is =
    record { low = h.low; high = rw is h.high; enters = omega (arith, kind); below = omega (arith, kind) }
  where
    f : Event → Event
    f = becomes (enter raw_format) home

    it : event_at r.queue.now w.event ≡ f (get_or (state p).queue w.event nothing)
    it =
        sym (rows_at event_at r.at.events r.queue.now w.event nothing (rw is (opened-low w p h)))
        ∙ ap (λ (x : Turn). get_or x.state.queue w.event nothing) c.changed.same
        ∙ amend-at f w.event (state p).queue nothing (omega (arith, opened-low w p h, rows-length event_at p.at.events p.queue.now))

    kind : (event_at r.queue.now w.event).kind ≡ 41
    kind = ap (λ (x : Event). x.kind) it

-- content that is not blank
pub content-turn : (v : View) (h : Span) (w : Verbatim) (p r : Parser) (run : Bool) (t : Token) → run ≡ is_run (role_of t.kind)
    → Queued p r (staying p (put v str h.from h.to)) → (n : ℕ) → n ≡ p.at.events + 1
    → record {
      cursor = r.at.cursor;
      state = with_inside (Some record { event = w.event; len = w.len; seen = true; run = run; keep = n; here = w.here }) (state r);
    }
    ≡ staying p (content v (here h p.at) t w) (state p)
content-turn v h w p r run t isr c n isn =
    ap (λ (x : Turn). record { cursor = x.cursor; state = with_inside (within run n) x.state }) c.changed.same ∙ rw (isr, keep)
  where
    within : Bool → ℕ → Option Verbatim
    within b k = Some record { event = w.event; len = w.len; seen = true; run = b; keep = k; here = w.here }

    keep : n ≡ suc (length (state p).queue)
    keep = omega (arith, isn, rows-length event_at p.at.events p.queue.now)

-- at the end of the lines all is kept
pub ended-in : (b : ℕ) (p r : Parser) (w : Verbatim) → p.at.inside ≡ Some w → Queued p r (staying p (headed w p.at.events b b))
    → Queued p r (staying p (ended_at b p.at.inside))
unfolding ended_at
ended-in b p r w e c =
    queued-as p r _ c _ (rw (e, ← rows_cut event_at p.at.events p.at.events p.queue.now (omega arith)))
