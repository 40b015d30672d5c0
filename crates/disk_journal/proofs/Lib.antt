mod Begin
mod Loop
mod Ready
mod Steps
