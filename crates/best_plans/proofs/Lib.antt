mod Growing
