mod NameLemmas
mod ExchangeLemmas
mod MarkLemmas
mod NumberLemmas
mod SpanLemmas
